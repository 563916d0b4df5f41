-- Which commands ask something of the ends of links (Core 5.2, volume 4 part E, sections 7.1 and 7.8).
use Rattle.std.specs.Prelude.{Bool, true, false}
use Rattle.hci_cmd.specs.declared.command.Command.{Command}
use Rattle.hci_cmd.specs.declared.command.Command.TheVariants.{Disconnect, LeConnectionUpdate, LeEnableEncryption, LeKeyNegative, LeKeyReply, LeParamNegative, LeParamReply, LeReadRemoteFeatures, LeSetChannels, LeSetDataLength, LeSetPhy, ReadRemoteVersion}
use Rattle.host_view.specs.View.{View}

-- the end of one link is asked for something, or the ends of all links of a central for a channel map, which changes
-- nothing at an end that is to have that map already (section 7.8.19)
abbrev pub asks_links : View → Command → Bool
asks_links view (Disconnect handle reason) = true
asks_links view (ReadRemoteVersion handle) = true
asks_links view (LeReadRemoteFeatures handle) = true
asks_links view (LeSetDataLength handle most time) = true
asks_links view (LeConnectionUpdate handle min max latency timeout lengths) = true
asks_links view (LeSetChannels map) = true
asks_links view (LeSetPhy handle all tx rx options) = true
asks_links view (LeParamReply handle min max latency timeout lengths) = true
asks_links view (LeParamNegative handle reason) = true
asks_links view (LeEnableEncryption handle rand ediv key) = true
asks_links view (LeKeyReply handle key) = true
asks_links view (LeKeyNegative handle) = true
asks_links view other = false

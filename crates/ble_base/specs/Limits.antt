-- Sizes that several layers share.
use Rattle.std.specs.Prelude.{ℕ}

-- the most octets in the payload of a data channel PDU, without its message integrity check (Core 5.2, volume 6 part B,
-- section 2.4)
abbrev pub payload_octets : ℕ
payload_octets = 251

-- the most octets of such a payload until the ends of a link agree on more (section 4.5.10)
abbrev pub first_payload_octets : ℕ
first_payload_octets = 27

-- the most octets of a packet on the air, without its preamble: an access address of 4, a PDU of at most 257 and a CRC
-- of 3 (section 2.1)
abbrev pub air_packet_octets : ℕ
air_packet_octets = 264

-- the most random words in the settings of a controller (our choice)
abbrev pub most_random_words : ℕ
most_random_words = 64

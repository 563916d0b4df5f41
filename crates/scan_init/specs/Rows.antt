-- Devices and PDUs of the worked examples.
use Rattle.std.specs.Prelude.{ℕ, zero, suc, Bool, true, false, List, [], ◌∷◌, Option}
use Rattle.ble_base.specs.declared.addresses.Address.{Address}
use Rattle.adv_pdu.specs.declared.pdu.AdvPdu.{AdvPdu}
use Rattle.adv_pdu.specs.declared.pdu.AdvPdu.TheVariants.{Ind, Direct, Nonconn, ScanInd, ScanRsp}
use Rattle.scan_init.specs.declared.initiator.InitParams.{InitParams}
use Rattle.scan_init.specs.declared.reports.Report.{Report}
use Rattle.scan_init.specs.declared.reports.ReportKind.{ReportKind}
use Rattle.scan_init.specs.declared.scanner.ScanParams.{ScanParams}

-- a device with a public address that ends in this octet
abbrev pub device : ℕ → Address
device last = record { random = false; octets = last ∷ 0x00 ∷ 0x00 ∷ 0xEE ∷ 0xFF ∷ 0xC0 ∷ [] }

-- advertisements and a scan_rsp of a device, without data
abbrev pub adv_ind : ℕ → AdvPdu
adv_ind last = Ind (device last) true (record { items = [] })

abbrev pub adv_nonconn_ind : ℕ → AdvPdu
adv_nonconn_ind last = Nonconn (device last) (record { items = [] })

abbrev pub adv_scan_ind : ℕ → AdvPdu
adv_scan_ind last = ScanInd (device last) (record { items = [] })

abbrev pub adv_direct_ind : ℕ → ℕ → AdvPdu
adv_direct_ind last target = Direct (device last) (device target) true

abbrev pub scan_rsp : ℕ → AdvPdu
scan_rsp last = ScanRsp (device last) (record { items = [] })

-- a scanner of device 0B that listens all the time
abbrev pub scanner : (active listed once : Bool) → ScanParams
scanner active listed once = record {
  active = active;
  interval = 0x10;
  window = 0x10;
  own = device 0x0B;
  listed = listed;
  once = once;
}

abbrev pub report_from : ReportKind → ℕ → Report
report_from kind last = record { kind = kind; from = device last }

-- reports of the devices from this number down to 1
abbrev pub reports_down : ReportKind → ℕ → List Report
reports_down kind zero = []
reports_down kind (suc last) = report_from kind (suc last) ∷ reports_down kind last

-- an initiator of device 0B that is to connect to this peer, or to one of the accept list
abbrev pub initiator : Option Address → InitParams
initiator peer = record {
  interval = 0x60;
  window = 0x60;
  own = device 0x0B;
  peer = peer;
  link = record {
    access = 0;
    crc_init = 0;
    win_size = 1;
    win_offset = 0;
    interval = 24;
    latency = 0;
    timeout = 72;
    map = 0;
    hop = 0;
    sca = 0;
  };
}

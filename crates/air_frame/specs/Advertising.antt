-- What every packet on an advertising channel begins with (Core 5.2, volume 6 part B, sections 2.1.2 and 3.1.1).
use Rattle.std.specs.Prelude.{ℕ}

-- the access address of the advertising channels
abbrev pub advertising_access : ℕ
advertising_access = 0x8E89BED6

-- the value with which the CRC of an advertising channel PDU starts
abbrev pub advertising_crc_init : ℕ
advertising_crc_init = 0x555555

-- What a request says of the material of the keys (Core 5.2, volume 6 part B, section 5.1.3.1).
use Rattle.std.specs.Prelude.{◌≡◌, Option, Some}
use Rattle.data_pdu.specs.declared.ctrl.Ctrl.{Ctrl}
use Rattle.data_pdu.specs.declared.ctrl.Ctrl.TheVariants.{EncReq}
use Rattle.keyed_control.specs.declared.material.KeyMaterial.{KeyMaterial}

-- it is an LL_ENC_REQ with the halves of this material
abbrev pub IsRequestWith : KeyMaterial → Option Ctrl → Type 0
IsRequestWith m (Some (EncReq rand ediv skd_m iv_m)) = (skd_m ≡ m.skd_m) × (iv_m ≡ m.iv_m)
IsRequestWith m request = ⊥

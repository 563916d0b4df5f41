-- The keys of an end that takes the PDU of the other, or does not.
use Rattle.std.proofs.Common.{◌≡◌, ℕ, ◌&&◌, not, Bool, true, false, Option, Some, None, refl, ap, sym, ◌∙◌, subst}
use Rattle.std.proofs.lemmas.Bool.{and_from}
use Rattle.ble_base.specs.declared.roles.Role.TheVariants.{Central}
use Rattle.data_pdu.specs.declared.ctrl.CtrlRead.TheVariants.{Known}
use Rattle.joint_laws.specs.joint_controls.phased_control.Phased.{Phased}
use Rattle.joint_laws.specs.joint_controls.phased_control.Taken.{Response, role_now}
use Rattle.joint_laws.specs.joint_controls.Joint.{Control as control_item, Data as data_item, Item, OnAir, Way, item_on_air}
use Rattle.joint_keys.specs.KeyedJoint.{Keys, keys_opening}
use Rattle.link_model.specs.phased_end.Taking.{drawn}
use Rattle.link_model.specs.Acknowledgement.{Acknowledgement, Pdu}
use Rattle.link_model.specs.Controls.{is_procedure_pdu}
use Rattle.link_model.specs.Data.{is_data, is_empty}
use Rattle.link_model.specs.Facts.{Facts}
use Rattle.link_model.specs.Receiving.{accepted_if, counts_accepted, data_taken_if, procedures_take_if, taken_if}
use Rattle.link_pairs.specs.Ends.{phased_of}
use Rattle.link_pairs.specs.Shown.{HasKeys}
use Rattle.link_pairs.proofs.Items.{control_is_no_data, control_is_not_empty, control_is_procedure, data_is_no_procedure, data_is_not_empty, never}
use Rattle.link_pairs.proofs.KeyedRuns.{keys_taken_if}
use Rattle.link_pairs.proofs.KeysHeld.{control_has, data_has, nothing_has, taken_alike}
use Rattle.link_pairs.proofs.Ways.{Arrival, ItemTaken, NothingTaken}

module _ (way : Way) (from to : Acknowledgement) (takes accepted : Bool) (slot : ℕ) (x : Phased) (keys : Keys) (facts : Facts)
    (is : x ≡ phased_of facts) (has : HasKeys keys facts) where
  abbrev pdu : Pdu
  pdu = from.last

  abbrev response : Response
  response = drawn facts.encryption.response

  abbrev now : Facts
  now = taken_if accepted pdu slot facts

  abbrev given : Facts
  given = accepted_if accepted pdu facts

  -- what is taken is this, by what it is
  now_as : (procedure data_first : Bool) → (accepted && is_procedure_pdu pdu) ≡ procedure → (accepted && is_data pdu) ≡ data_first
      → now ≡ data_taken_if data_first (procedures_take_if procedure pdu slot given)
  now_as procedure data_first one two = λ i. data_taken_if (two i) (procedures_take_if (one i) pdu slot given)

  -- the PDU that is on the air is taken
  abbrev HasTaken : Option Item → Type 0
  HasTaken item = HasKeys (keys_taken_if true item slot response x keys) now

  taken_keys : (item : Item) (sealed : Bool) → way ≡ OnAir item sealed → takes ≡ true → HasTaken (Some item)
      → HasKeys (keys_taken_if takes (item_on_air way) slot response x keys) now
  taken_keys item sealed at does taken =
      subst (λ (b : Bool). HasKeys (keys_taken_if b (item_on_air way) slot response x keys) now) (sym does)
      (subst (λ (w : Way). HasTaken (item_on_air w)) (sym at) taken)

  counts : accepted ≡ true → is_empty pdu ≡ false → counts_accepted accepted pdu ≡ true
  counts does some = and_from accepted (not (is_empty pdu)) does (ap not some)

  pub took_keys : Arrival way from to takes accepted → HasKeys (keys_taken_if takes (item_on_air way) slot response x keys) now
  took_keys (NothingTaken none no_procedure no_data no_count free shown) =
      subst (λ (b : Bool). HasKeys (keys_taken_if b (item_on_air way) slot response x keys) now) (sym none)
      (subst (HasKeys keys) (sym (now_as false false no_procedure no_data)) (nothing_has accepted pdu keys facts no_count has))
  took_keys (ItemTaken data_item sealed at does is_accepted item shown) =
      taken_keys data_item sealed at does
      (subst (HasKeys (keys_taken_if true (Some data_item) slot response x keys))
      (sym (now_as false true (ap (λ (b : Bool). accepted && b) (data_is_no_procedure pdu item) ∙ never accepted) (and_from accepted (is_data pdu) is_accepted item)))
      (data_has accepted pdu slot x keys facts is (counts is_accepted (data_is_not_empty pdu item)) has))
  took_keys (ItemTaken (control_item outgoing ctrl) sealed at does is_accepted item shown) =
      taken_keys (control_item outgoing ctrl) sealed at does
      (subst (HasKeys (keys_taken_if true (Some (control_item outgoing ctrl)) slot response x keys))
      (sym (now_as true false (and_from accepted (is_procedure_pdu pdu) is_accepted (control_is_procedure ctrl pdu item))
      (ap (λ (b : Bool). accepted && b) (control_is_no_data ctrl pdu item) ∙ never accepted)))
      (control_has accepted pdu slot x keys facts is (counts is_accepted (control_is_not_empty ctrl pdu item)) has ctrl item.read_as))

-- a central takes it whatever it would draw
pub central_alike : (takes : Bool) (item : Option Item) (slot : ℕ) (one other : Response) (x : Phased) (keys : Keys) → role_now x ≡ Central
    → keys_taken_if takes item slot one x keys ≡ keys_taken_if takes item slot other x keys
central_alike false item slot one other x keys is = refl
central_alike true None slot one other x keys is = refl
central_alike true (Some data_item) slot one other x keys is = refl
central_alike true (Some (control_item outgoing ctrl)) slot one other x keys is = taken_alike slot one other x (keys_opening keys) is (Known ctrl)

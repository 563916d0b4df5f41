-- What the calls by a pointer share. Assumes `Logic`.
--     start_had, start_made, mark_had, mark_made      a value that is one pointer, and one of no bytes
--     value_out, value_in, one_value      a value in its place, and as one machine value
--     place_out, place_in, place_seen      one place of a row is taken out of it, put back, or seen
--     of_room, to_room      room for an array is a row of empty places
use mathlib.Core.Path.{◌≡◌, refl, sym, ap, subst, ◌∙◌}
use Prim.Native.Nat.{ℕ, zero, suc, ◌+◌, ◌*◌, ◌<◌, ◌≤◌, ◌^◌}
use native.Mathlib.Omega.{arith}
use native.Mathlib.Nat.{zero-mul, suc-mul}
use mathlib.Core.List.{List, [], ◌∷◌, ◌++◌}
use lib.ListN.{length, take, drop, set, get_or, replicate, take-append-drop, length-take, length-set}
use lib.Seq.{drop-cons, set_split}
use seplogic.Ra.Ura.{Ura}
use base.Fraction.{full_share}
use mir.Syntax.{Ty, ty_array}
use mir.Val.{Val, vstruct, vcons, vnil, of_list}
use base.Logic.{SProp, ent, sep, emp, ex, guard, via, snd∗, id⊢}
use base.Fml.{Fml, Lft, ftrue, fsep, fat, froom}
use types.Logic.{Logic, sem}
use contract.Monad.{fact, fact_i}
use types.Kit.{Item, Goal, Seq, Step, step, prop, ‵, raw, some, ◌⊛◌, ◌$◌, ◌∵◌, !, qed, by, move, keep, drop as skip, use0, use1, use2, pick, split, check, show, frame, fsplit, fjoin, fpick, fpack, feq_i, feq_l, flt_i, rewrite, done}
use denote.RattleType.{RattleType, Valss}
use denote.Laws.{Typed, Is, shows}
use denote.Param.{param, layout}
use denote.Param.Laws.{Laws, param_laws}
use denote.Memory.{part_at}
use denote.RawPtr.{Ptr, RawPtr, ptr_val, block_ptr}
use denote.Shadow.{makes_shadow}
use denote.Steps.{nothing, peeks}
use denote.Struct.Struct.{Shape, Struct, within}
use denote.Struct.Owning.{shape}
use denote.Struct.Declared as Declared
use denote.Struct.Tuple.{Tuple, tuple_type}
use borrow.Table.OneValue.{part_in, part_out}
use Rattle.std.specs.Prelude.{Option, None}
use Rattle.std.specs.Mem.{type_size}
use Rattle.core.proofs.mem.Param.{El, R, el_x, elτ}
use Rattle.core.proofs.ptr.Rows.{times_below, one_below}
use Rattle.std_alloc.proofs.RcSteps.{Good, word}
use Rattle.raw_block.specs.Ownership.{place_owned, place_lent, row_owned, row_lent, places_owned}
use Rattle.raw_block.specs.contracts.places.Places as places
use Rattle.raw_block.specs.contracts.places.Start as start

module _ (E : El) where
  abbrev pub Ps : RattleType
  Ps = places.the_row (R E)

  abbrev pub St : RattleType
  St = start.the_row (R E)

  -- the one field of `Places`, which has no bytes
  abbrev pub Mark : RattleType
  Mark = Struct (shape (places.the_type (R E)))

  abbrev pub size : ℕ
  size = type_size (R E)

  abbrev pub Place : Type 0
  Place = Option (el_x E)

abbrev of_one_pointer : Shape
of_one_pointer = record { name = []; args = []; types = []; fields = RawPtr ∷ [] }

abbrev pub Pointer : RattleType
Pointer = Struct of_one_pointer

abbrev pub mark : Val
mark = vstruct (vcons (vstruct vnil) vnil)

pub mark_made : (E : El) {M : Type 1} {𝓤 : Ura M} (𝓛 : Logic 𝓤) → ent 𝓤 (emp 𝓤) (sem 𝓛 ((Mark E).own_val (tt, tt) (mark ∷ [])))
mark_made E 𝓛 = makes_shadow 𝓛 ((Mark E).own_val (tt, tt) (mark ∷ [])) (λ fields. (tt, ((λ inner. (tt, tt)), tt))) ((vstruct vnil ∷ [], tt), (refl, ((tt, (refl, tt)), tt)))

module _ {M : Type 1} {𝓤 : Ura M} {𝓛 : Logic 𝓤} {K : Type 0} {Γ : List (Item 𝓤)} {G : Goal 𝓤 𝓛.H} where
  pub start_had : K → (at : Ptr) (vs : List Val) → (vs ≡ word at ∷ [] → Seq K 𝓛 Γ G) → Seq K 𝓛 (‵ (Pointer.own_val (at, tt) vs) ∷ Γ) G
  start_had t at vs rest =
      fpick t (λ fields. fsplit t $ feq_l t (λ whole. fsplit t $ feq_l t (λ one. skip t $
      rest (subst (λ (us : List Val). vs ≡ vstruct (of_list (us ++ [])) ∷ []) one whole))))

  pub start_made : K → (at : Ptr) → Step K 𝓛 (‵ (Pointer.own_val (at, tt) (word at ∷ [])) ∷ Γ) G Γ G
  start_made t at = step (λ s.
      nothing t $ feq_i t (List Val) (ptr_val at ∷ []) (ptr_val at ∷ []) refl $ fjoin t $
      feq_i t (List Val) (word at ∷ []) (word at ∷ []) refl $ fjoin t $
      fpack t (Valss (RawPtr ∷ [])) (within of_one_pointer (at, tt) (word at ∷ [])) (ptr_val at ∷ [], tt) $ s)

  pub mark_had : K → (E : El) (vs : List Val) → (vs ≡ mark ∷ [] → Seq K 𝓛 Γ G) → Seq K 𝓛 (‵ ((Mark E).own_val (tt, tt) vs) ∷ Γ) G
  mark_had t E vs rest =
      fpick t (λ fields. fsplit t $ feq_l t (λ whole. fsplit t $ fpick t (λ inner. fsplit t $ feq_l t (λ none. skip t $ skip t $
      rest (subst (λ (us : List Val). vs ≡ vstruct (of_list (us ++ [])) ∷ []) none whole)))))

module _ {M : Type 1} {𝓤 : Ura M} {𝓛 : Logic 𝓤} {K : Type 0} {Γ : List (Item 𝓤)} where
  -- an `ensures` of two facts
  pub says_both : K → {φ ψ : Type 0} {P : SProp 𝓤} → φ → ψ → Step K 𝓛 Γ (prop P) Γ (prop (sep 𝓤 P (sep 𝓤 (fact 𝓤 φ) (fact 𝓤 ψ))))
  says_both t {φ} {ψ} {P} x y = step (λ s. record {
    prf = via 𝓤 P s.prf (qed 𝓛 (raw P ∷ []) {P = sep 𝓤 P (sep 𝓤 (fact 𝓤 φ) (fact 𝓤 ψ))} (
        frame ! $ use0 𝓛 (raw (fact 𝓤 ψ)) (fact_i 𝓤 ψ (emp 𝓤) y) $ use0 𝓛 (raw (fact 𝓤 φ)) (fact_i 𝓤 φ (emp 𝓤) x) $ done !));
  })

module _ (i : ℕ) (Y : RattleType) (L : Laws Y) {M : Type 1} {𝓤 : Ura M} (𝓛 : Logic 𝓤) where
  open 𝓛 use {H}

  -- a value in memory is one machine value of its type
  pub value_out : (x : Y.Denot) (b o : ℕ) → ent 𝓤 (sem 𝓛 (part_at (param i Y) full_share x b o)) (ex 𝓤 (λ (v : Val). guard 𝓤 (Good (layout Y) v) (sep 𝓤 (H.at full_share (layout Y) b o v) (sem 𝓛 (Y.own_val x (v ∷ []))))))
  value_out x b o = qed 𝓛 (‵ (part_at (param i Y) full_share x b o) ∷ []) ∵
      use1 𝓛 (some (λ (v : Val). ‵ (fat full_share (layout Y) b o v) ⊛ ‵ (Y.own_val x (v ∷ [])))) (part_out 𝓛 (param i Y) refl full_share x b o) $
      pick ! (λ v. split ! $ move ! (1 ∷ []) $ peeks ! (param i Y) (Is (param i Y)) (shows 𝓛 (param i Y)) x (v ∷ []) (λ is.
      show ! (λ (w : Val). guard 𝓤 (Good (layout Y) w) (sep 𝓤 (H.at full_share (layout Y) b o w) (sem 𝓛 (Y.own_val x (w ∷ []))))) v $
      check ! (((param_laws i Y L).lawful 𝓛).typed x (v ∷ []) is).0 $ move ! (1 ∷ 0 ∷ []) $ done !))

  pub value_in : (x : Y.Denot) (b o : ℕ) (v : Val) → ent 𝓤 (sep 𝓤 (H.at full_share (layout Y) b o v) (sem 𝓛 (Y.own_val x (v ∷ [])))) (sem 𝓛 (part_at (param i Y) full_share x b o))
  value_in x b o v = part_in 𝓛 (param i Y) refl full_share x b o v

abbrev pub three : Val → Val → Val → Val
three u v w = vstruct (vcons u (vcons v (vcons w vnil)))

pub three_made : {M : Type 1} {𝓤 : Ura M} (𝓛 : Logic 𝓤) (X Y Z : RattleType) (x : X.Denot) (y : Y.Denot) (z : Z.Denot) (u v w : Val)
    → ent 𝓤 (sep 𝓤 (sem 𝓛 (X.own_val x (u ∷ []))) (sep 𝓤 (sem 𝓛 (Y.own_val y (v ∷ []))) (sem 𝓛 (Z.own_val z (w ∷ []))))) (sem 𝓛 ((Tuple (X ∷ Y ∷ Z ∷ [])).own_val (x, y, z) (three u v w ∷ [])))
three_made 𝓛 X Y Z x y z u v w =
    qed 𝓛 (‵ (X.own_val x (u ∷ [])) ∷ ‵ (Y.own_val y (v ∷ [])) ∷ ‵ (Z.own_val z (w ∷ [])) ∷ []) ∵
    nothing ! $ move ! (3 ∷ 0 ∷ []) $ fjoin ! $ move ! (2 ∷ 0 ∷ []) $ fjoin ! $ move ! (1 ∷ 0 ∷ []) $ fjoin ! $
    feq_i ! (List Val) (three u v w ∷ []) (three u v w ∷ []) refl $ fjoin ! $
    fpack ! (Valss (X ∷ Y ∷ Z ∷ [])) (within (Declared.shape (tuple_type (X ∷ Y ∷ Z ∷ []))) (x, (y, (z, tt))) (three u v w ∷ [])) (u ∷ [], (v ∷ [], (w ∷ [], tt))) $ done !

only_one : (τ : Ty) (vs : List Val) → Typed (τ ∷ []) vs → (v : Val) × ((vs ≡ v ∷ []) × Good τ v)
only_one τ [] typed = absurd typed
only_one τ (v ∷ []) typed = (v, (refl, typed.0))
only_one τ (v ∷ w ∷ vs) typed = absurd typed.1

module _ (Y : RattleType) (L : Laws Y) {M : Type 1} {𝓤 : Ura M} {𝓛 : Logic 𝓤} {K : Type 0} {Γ : List (Item 𝓤)} {G : Goal 𝓤 𝓛.H} where
  pub one_value : K → (x : Y.Denot) (vs : List Val) → ((v : Val) → vs ≡ v ∷ [] → Good (layout Y) v → Seq K 𝓛 (‵ (Y.own_val x (v ∷ [])) ∷ Γ) G) → Seq K 𝓛 (‵ (Y.own_val x vs) ∷ Γ) G
  one_value t x vs rest =
      peeks t (param 0 Y) (Is (param 0 Y)) (shows 𝓛 (param 0 Y)) x vs (λ is.
      let one = only_one (layout Y) vs (((param_laws 0 Y L).lawful 𝓛).typed x vs is) in
      rewrite t 0 (λ (us : List Val). ‵ (Y.own_val x us)) one.1.0 refl $ rest one.0 one.1.0 one.1.1)

-- the way from the start to a place, in bytes
pub in_a_word : (E : El) (held : List (Place E)) (place : ℕ) → place < length held → length held * size E < 2 ^ 63 → (size E < 2 ^ 64) × (place * size E < 2 ^ 64)
in_a_word E held place within small = (
  omega (arith, one_below (length held) (size E) (2 ^ 63) (omega arith) small),
  omega (arith, times_below place (length held) (size E) (2 ^ 63) (omega arith) small),
)

module _ (E : El) {M : Type 1} {𝓤 : Ura M} (𝓛 : Logic 𝓤) (b : ℕ) where
  open 𝓛 use {H}

  abbrev s : ℕ
  s = size E

  abbrev Row : ℕ → List (Place E) → Fml
  Row = row_owned (R E) b

  parted : (xs ys : List (Place E)) (o at : ℕ) → at ≡ length xs * s + o → ent 𝓤 (sem 𝓛 (Row o (xs ++ ys))) (sep 𝓤 (sem 𝓛 (Row o xs)) (sem 𝓛 (Row at ys)))
  parted [] ys o at e = qed 𝓛 (‵ (Row o ys) ∷ []) ∵ rewrite ! 0 (λ (k : ℕ). ‵ (Row k ys)) {x = at} (omega (arith, zero-mul s)) refl $ nothing ! $ done !
  parted (x ∷ xs) ys o at e =
      let further : at ≡ suc (length xs) * s + o = e in
      qed 𝓛 (‵ (Row o (x ∷ xs ++ ys)) ∷ []) ∵ fsplit ! $ move ! (1 ∷ []) $
      use1 𝓛 (‵ (Row (o + s) xs) ⊛ ‵ (Row at ys)) (parted xs ys (o + s) at (omega (arith, suc-mul (length xs) s))) $ split ! $ move ! (2 ∷ 0 ∷ []) $ fjoin ! $ done !

  put_together : (xs ys : List (Place E)) (o at : ℕ) → at ≡ length xs * s + o → ent 𝓤 (sep 𝓤 (sem 𝓛 (Row o xs)) (sem 𝓛 (Row at ys))) (sem 𝓛 (Row o (xs ++ ys)))
  put_together [] ys o at e = qed 𝓛 (‵ ftrue ∷ ‵ (Row at ys) ∷ []) ∵ skip ! $ rewrite ! 0 (λ (k : ℕ). ‵ (Row k ys)) {x = o} (omega (arith, zero-mul s)) refl $ done !
  put_together (x ∷ xs) ys o at e =
      let further : at ≡ suc (length xs) * s + o = e in
      qed 𝓛 (‵ (Row o (x ∷ xs)) ∷ ‵ (Row at ys) ∷ []) ∵ fsplit ! $ move ! (1 ∷ 2 ∷ []) $
      use2 𝓛 (‵ (Row (o + s) (xs ++ ys))) (put_together xs ys (o + s) at (omega (arith, suc-mul (length xs) s))) $ move ! (1 ∷ 0 ∷ []) $ fjoin ! $ done !

  module _ (o : ℕ) (held : List (Place E)) (place : ℕ) where
    -- all places but this one
    abbrev pub Others : Fml
    Others = fsep (Row o (take place held)) (Row (place * s + o + s) (drop (suc place) held))

    offset : place ≤ length held → place * s + o ≡ length (take place held) * s + o
    offset le = let front : place ≡ length (take place held) = omega (arith, length-take place held) in ap (λ k. k * s + o) front

    pub place_out : place < length held → ent 𝓤 (sem 𝓛 (Row o held)) (sep 𝓤 (sem 𝓛 (place_owned (R E) b (place * s + o) (get_or held place None))) (sem 𝓛 Others))
    place_out within = qed 𝓛 (‵ (Row o held) ∷ []) ∵
        rewrite ! 0 (λ (l : List (Place E)). ‵ (Row o l)) (sym (take-append-drop place held) ∙ ap (λ l. take place held ++ l) (drop-cons held place None within)) refl $
        use1 𝓛 (‵ (Row o (take place held)) ⊛ ‵ (Row (place * s + o) (get_or held place None ∷ drop (suc place) held)))
        (parted (take place held) (get_or held place None ∷ drop (suc place) held) o (place * s + o) (offset (omega arith))) $
        split ! $ move ! (1 ∷ []) $ fsplit ! $ move ! (2 ∷ 1 ∷ []) $ fjoin ! $ move ! (1 ∷ []) $ done !

    row_in : place < length held → (c : Place E) → ent 𝓤 (sep 𝓤 (sem 𝓛 (place_owned (R E) b (place * s + o) c)) (sem 𝓛 Others)) (sem 𝓛 (Row o (set held place c)))
    row_in within c = qed 𝓛 (‵ (place_owned (R E) b (place * s + o) c) ∷ ‵ Others ∷ []) ∵ move ! (1 ∷ []) $ fsplit ! $ move ! (2 ∷ 1 ∷ []) $ fjoin ! $ move ! (1 ∷ 0 ∷ []) $
        use2 𝓛 (‵ (Row o (take place held ++ c ∷ drop (suc place) held))) (put_together (take place held) (c ∷ drop (suc place) held) o (place * s + o) (offset (omega arith))) $
        rewrite ! 0 (λ (l : List (Place E)). ‵ (Row o l)) (sym (set_split held place c within)) refl $ done !

    -- with this in its place all are owned again
    pub place_in : (at : Ptr) → at ≡ block_ptr b o → place < length held → length held * s < 2 ^ 63 → (c : Place E)
        → ent 𝓤 (sep 𝓤 (sem 𝓛 (place_owned (R E) b (place * s + o) c)) (sem 𝓛 Others)) (sem 𝓛 (places_owned (R E) at (set held place c)))
    place_in at e within small c = qed 𝓛 (‵ (place_owned (R E) b (place * s + o) c) ∷ ‵ Others ∷ []) ∵
        use2 𝓛 (‵ (Row o (set held place c))) (row_in within c) $
        flt_i ! (length (set held place c) * s) (2 ^ 63) (subst (λ k. k * s < 2 ^ 63) (sym (length-set held place c)) small) $ fjoin ! $
        rewrite ! 0 (λ (p : Ptr). ‵ (places_owned (R E) p (set held place c))) (sym e) refl $ done !

  pub of_room : (n o : ℕ) → ent 𝓤 (H.room (ty_array (elτ E) n) b o) (sem 𝓛 (Row o (replicate n None)))
  of_room zero o = qed 𝓛 (‵ (froom (ty_array (elτ E) 0) b o) ∷ []) ∵ keep ! [] $ done !
  of_room (suc n) o = qed 𝓛 (‵ (froom (ty_array (elτ E) (suc n)) b o) ∷ []) ∵
      use1 𝓛 (‵ (froom (elτ E) b o) ⊛ ‵ (froom (ty_array (elτ E) n) b (o + s))) (𝓛.laws.room_uncons (elτ E) n b o) $ split ! $
      use1 𝓛 (‵ (place_owned (R E) b o None)) (𝓛.laws.room-raw (elτ E) b o) $ frame ! $ by ! (of_room n (o + s))

  pub to_room : (n o : ℕ) → ent 𝓤 (sem 𝓛 (Row o (replicate n None))) (H.room (ty_array (elτ E) n) b o)
  to_room zero o = 𝓛.laws.room_nil (elτ E) b o
  to_room (suc n) o = qed 𝓛 (‵ (place_owned (R E) b o None) ∷ ‵ (Row (o + s) (replicate n None)) ∷ []) ∵
      use1 𝓛 (‵ (froom (elτ E) b o)) (𝓛.laws.raw-room (elτ E) b o) $ move ! (1 ∷ []) $
      use1 𝓛 (‵ (froom (ty_array (elτ E) n) b (o + s))) (to_room n (o + s)) $ move ! (1 ∷ []) $ by ! (𝓛.laws.room_cons (elτ E) n b o)

  module _ (κ : Lft) where
    abbrev Seen : ℕ → List (Place E) → Fml
    Seen o held = row_lent (R E) b o held κ

    seen_from : (held : List (Place E)) (place o at : ℕ) → place ≤ length held → at ≡ place * s + o → ent 𝓤 (sem 𝓛 (Seen o held)) (sem 𝓛 (Seen at (drop place held)))
    seen_from held zero o at le e = let here : o ≡ at = omega (arith, zero-mul s) in subst (λ k. ent 𝓤 (sem 𝓛 (Seen o held)) (sem 𝓛 (Seen k held))) here (id⊢ 𝓤 _)
    seen_from [] (suc place) o at le e = absurd (omega arith)
    seen_from (c ∷ held) (suc place) o at le e =
        via 𝓤 (sem 𝓛 (Seen (o + s) held)) (snd∗ 𝓤 (sem 𝓛 (place_lent (R E) b o c κ)) (sem 𝓛 (Seen (o + s) held)))
        (seen_from held place (o + s) at (omega arith) (omega (arith, suc-mul place s)))

    pub place_seen : (o : ℕ) (held : List (Place E)) (place : ℕ) → place < length held → ent 𝓤 (sem 𝓛 (Seen o held)) (sem 𝓛 (place_lent (R E) b (place * s + o) (get_or held place None) κ))
    place_seen o held place within = qed 𝓛 (‵ (Seen o held) ∷ []) ∵
        use1 𝓛 (‵ (Seen (place * s + o) (drop place held))) (seen_from held place o (place * s + o) (omega arith) refl) $
        rewrite ! 0 (λ (l : List (Place E)). ‵ (Seen (place * s + o) l)) (drop-cons held place None within) refl $ fsplit ! $ keep ! (0 ∷ []) $ done !

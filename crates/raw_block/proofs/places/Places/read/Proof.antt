-- `read` moves a value out, and its place is empty from then on. Assumes `Logic`.
use mathlib.Core.Path.{◌≡◌, refl, sym, subst, ◌∙◌}
use Prim.Native.Nat.{ℕ, ◌+◌, ◌*◌, ◌<◌, ◌^◌}
use mathlib.Core.List.{List, [], ◌∷◌, ◌++◌}
use lib.ListN.{set, get_or}
use seplogic.Ra.Ura.{Ura}
use base.Fraction.{full_share}
use mir.Syntax.{Fn, named, w64}
use mir.MapTy.{inst_fn}
use mir.Val.{Val, vptr, vint}
use base.Logic.{SProp, ent, sep, never, id⊢}
use base.Fml.{Lft, GName, Share, ftrue, fat, froom, flft, fobs, fbor}
use prog.Wp.{Env, Calls, Loops, WpFn, Tables}
use types.Logic.{Logic}
use contract.Monad.{fact}
use contract.Running.{tables, tables_of}
use sound.WpLaws.{WpFn-mono}
use types.Kit.{Item, ⋆, ‵, ◌⊛◌, some, given, pick, learn, at_ret, ◌$◌, ◌∵◌, !, qed, by, move, keep, use1, use2, split, join, rewrite, fsplit, fsplit3, fjoin, fjoin3, feq_i, feq_l, flt_l, suffices, frame, done}
use types.Part.{whole, sub}
use types.Run.{look, stop, fld, load, bin, size_lit, of_opd, first, blocks, exec, returns, enter}
use types.ByLocal.{alloc_all, pass_all, free_all, look_at, get, get_in, through, sets, sets_last, take_at, give_at, env}
use types.SemTy.{Body as Borrowed}
use denote.Exit.{yes, no}
use denote.RattleType.{owns}
use denote.Memory.{mem}
use denote.Param.{layout}
use denote.RawPtr.{Ptr, in_a_block}
use denote.Ref.{MutBor, MutRef}
use denote.Builtin.{RefMutOf, usize}
use denote.Signature.{plain}
use denote.Steps.{nothing, opens, closes}
use denote.Triple.Carry.{spared}
use denote.Triple.Clauses.{Clauses, Ended, closing}
use denote.Triple.Entry.{on_entry}
use denote.Triple.Spec.{Meets, triple_of}
use denote.Triple.Table.{entered, run_framed}
use denote.Triple.Walked.{needs, Stays, stay_dropped, stay_ref, walk_of, ends_at, Goes-dropped, Goes-ref, walk_Meets}
use Rattle.std.specs.Prelude.{Some, None}
use Rattle.core.proofs.mem.Param.{El, R, args, elτ}
use Rattle.std_alloc.proofs.VecSteps.Shapes.{after}
use Rattle.std_alloc.proofs.RcSteps.{Good, word, word-Good}
use Rattle.std_alloc.proofs.RawLayout.{as_raw}
use Rattle.raw_block.specs.Ownership.{place_owned, places_owned}
use Rattle.raw_block.specs.Places.{IsTaken}
use Rattle.raw_block.proofs.Rows.{taken_within}
use Rattle.raw_block.proofs.Memory.{Ps, St, size, Place, start_had, says_both, value_out, in_a_word, Others, place_out, place_in}
use Rattle.raw_block.specs.contracts.places.Places.read.Key.{name as #self}
use Rattle.raw_block.proofs.places.Places.read.Statement as stated
use Rattle.raw_block.proofs.places.Places.read.Code as code

module _ (E : El) where
  abbrev function : Fn
  function = inst_fn (args E) code.function

  abbrev ended : Ended
  ended = record {
    signature = record {
      lifetimes = 1;
      outlives = [];
      params = RefMutOf (0 ∷ []) tt (plain (λ _. Ps E)) (λ _. tt) ∷ plain (λ _. St E) ∷ plain (λ _. usize) ∷ [];
      result = plain (λ _. R E);
    };
    kept = (yes, (no, (no, tt)));
  }

  abbrev stayed : Stays ended.signature.params ended.kept
  stayed = (stay_ref (0 ∷ []) tt (plain (λ _. Ps E)), (stay_dropped (plain (λ _. St E)) no, (stay_dropped (plain (λ _. usize)) no, tt)))

  abbrev Asks : (Ps E).Denot → (St E).Denot → ℕ → Type 0
  Asks d start place = (start.at ≡ d.at) × IsTaken d.held place

  abbrev Gives : (Ps E).Denot → ℕ → (R E).Denot → Type 0
  Gives d place r = get_or d.held place None ≡ Some r

  abbrev Leaves : (Ps E).Denot → ℕ → (Ps E).Denot → Type 0
  Leaves d place new = (new.at ≡ d.at) × (new.held ≡ set d.held place None)

  abbrev spec : {M : Type 1} {𝓤 : Ura M} (𝓛 : Logic 𝓤) → Clauses 𝓤 ended
  spec {𝓤 = 𝓤} 𝓛 κs a = record {
    ghost = Unit {0};
    requires = λ _. fact 𝓤 (Asks a.0.now a.1.0 a.1.1.0);
    ensures = λ _ r w. sep 𝓤 (fact 𝓤 (Gives a.0.now a.1.1.0 r)) (fact 𝓤 (Leaves a.0.now a.1.1.0 w.0.now));
  }

module _ (E : El) {M : Type 1} {𝓤 : Ura M} (𝓛 : Logic 𝓤) (C : Calls 𝓤 𝓛.H) (Λ : Loops 𝓤 𝓛.H) (κ : Lft) (q : Share) (rb ro : ℕ) (γ : GName) (d : (Ps E).Denot) (start : (St E).Denot) (place : ℕ) (us0 us1 us2 : List Val) where
  open 𝓛 use {H, A}

  abbrev self : MutBor (Ps E).Denot
  self = record { ref_ptr = (rb, ro); ghost_name = γ; now = d }

  abbrev bound : (walk_of 𝓛 (ended E) (stayed E) (spec E 𝓛)).Ghost
  bound = (((κ, tt), (q, tt), tt, (self, (start, (place, tt))), (us0, (us1, (us2, tt)))), tt)

  abbrev Post : Val → SProp 𝓤
  Post = (walk_of 𝓛 (ended E) (stayed E) (spec E 𝓛)).post bound

  exits : us0 ≡ vptr rb ro ∷ [] → (r : (R E).Denot) (v : Val) (new : (Ps E).Denot) → Gives E d place r → Leaves E d place new
      → ent 𝓤 (⋆ 𝓛 (‵ (fobs γ ((Ps E).coded.code new)) ∷ ‵ (fbor κ (Borrowed (mem (Ps E)) rb ro γ)) ∷ ‵ (flft κ q) ∷ ‵ ((R E).own_val r (v ∷ [])) ∷ [])) (Post v)
  exits passed r v new gives leaves =
      qed 𝓛 (‵ (fobs γ ((Ps E).coded.code new)) ∷ ‵ (fbor κ (Borrowed (mem (Ps E)) rb ro γ)) ∷ ‵ (flft κ q) ∷ ‵ ((R E).own_val r (v ∷ [])) ∷ []) ∵
      suffices ! _ (ends_at 𝓛 (ended E) (stayed E) (spec E 𝓛) bound v r (new, (tt, (tt, tt))) (tt, (tt, (tt, tt)))) $ says_both ! gives leaves $
      nothing ! $ move ! (3 ∷ 0 ∷ []) $ join ! $ frame ! $ feq_i ! (List Val) us0 (vptr rb ro ∷ []) passed $ fjoin3 ! $
      nothing ! $ nothing ! $ fjoin ! $ nothing ! $ fjoin ! $ move ! (1 ∷ 0 ∷ []) $ fjoin ! $ done !

  abbrev Had : List (Item 𝓤)
  Had = ‵ (fobs γ ((Ps E).coded.code d)) ∷ ‵ (fbor κ (Borrowed (mem (Ps E)) rb ro γ)) ∷ ‵ (flft κ q) ∷ []

  walk : us0 ≡ vptr rb ro ∷ [] → Asks E d start place → place < 2 ^ 64 → ent 𝓤 (⋆ 𝓛 Had) (WpFn 𝓤 H C Λ (function E) (vptr rb ro ∷ word start.at ∷ vint w64 place ∷ []) Post)
  walk passed asked fits =
      let x = asked.1.0 in let within = taken_within d.held place x asked.1.1 in
      let new : (Ps E).Denot = record { mark = d.mark; at = d.at; held = set d.held place None } in
      qed 𝓛 Had ∵ enter ! C Λ (function E) (vptr rb ro ∷ word start.at ∷ vint w64 place ∷ []) _ $
      alloc_all ! (λ l. pass_all ! refl ((tt, tt), (word-Good [] start.at, ((tt, record { fits = fits }), tt))) $
      let En : Env 𝓤 H = env (function E).locals l in
      opens ! tt (Ps E) {h = d} rb ro (λ vs. move ! (1 ∷ []) $ fsplit ! $ move ! (1 ∷ []) $
      in_a_block ! d.at (λ p. places_owned (R E) p d.held) (id⊢ 𝓤 (never 𝓤)) (λ b o e. fsplit ! $ flt_l ! (λ small.
      let way = in_a_word E d.held place within small in
      take_at ! 2 $ rewrite ! 0 (λ (p : Ptr). ‵ (fat full_share (layout (St E)) (l 2) 0 (word p))) (asked.0 ∙ e) refl $ give_at ! 2 $ first ! $ blocks ! $
      sets ! (bin ! (get ! refl) (size_lit ! (record { fits = way.0 })) (record { fits = way.1 })) refl (tt, record { fits = way.1 }) $
      sets ! (bin ! (get_in ! (fld ! refl (stop !)) (sub ! 0 refl (whole !))) (get ! refl) tt) refl (tt, tt) $
      use1 𝓛 (‵ (place_owned (R E) b (place * size E + o) (get_or d.held place None)) ⊛ ‵ (Others E 𝓛 b o d.held place)) (place_out E 𝓛 b o d.held place within) $ split ! $
      rewrite ! 0 (λ (c : Place E). ‵ (place_owned (R E) b (place * size E + o) c)) asked.1.1 refl $
      use1 𝓛 (some (λ (v : Val). given (Good (elτ E) v) (‵ (fat full_share (elτ E) b (place * size E + o) v) ⊛ ‵ (E.row.own_val x (v ∷ []))))) (value_out 0 E.row E.laws 𝓛 x b (place * size E + o)) $
      pick ! (λ v. learn ! (λ good. split ! $ sets_last ! (of_opd ! (load ! (through ! refl (stop !)) (look ! 0 refl))) refl good $
      exec ! C Λ En (after 1 (function E).body) (at_ret En Post) $ sets ! (of_opd ! (get ! refl)) refl good $
      use1 𝓛 (‵ (froom (elτ E) b (place * size E + o))) (𝓛.laws.at_room (elτ E) b (place * size E + o) v) $ as_raw ! (elτ E) b (place * size E + o) $
      move ! (0 ∷ 2 ∷ 3 ∷ 4 ∷ 5 ∷ 6 ∷ 7 ∷ []) $
      use2 𝓛 (‵ (places_owned (R E) d.at new.held)) (place_in E 𝓛 b o d.held place d.at e within small None) $
      move ! (1 ∷ 0 ∷ []) $ fjoin ! $ move ! (1 ∷ 0 ∷ []) $ closes ! tt (Ps E) new vs rb ro $
      returns ! (look_at ! 0 refl) $ free_all ! refl $ keep ! (0 ∷ 1 ∷ 2 ∷ 3 ∷ []) $ by ! (exits passed x v new asked.1.1 (refl, refl))))))))

  entry : Asks E d start place → ent 𝓤 (on_entry 𝓛 (ended E).signature (κ, tt) (q, tt) (self, (start, (place, tt))) (us0, (us1, (us2, tt)))) (WpFn 𝓤 H C Λ (function E) (us0 ++ (us1 ++ (us2 ++ []))) Post)
  entry asked =
      qed 𝓛 ((‵ (flft κ q) ⊛ ‵ ftrue) ∷ ‵ (owns (MutRef (named 0) κ (Ps E) ∷ St E ∷ usize ∷ []) (self, (start, (place, tt))) (us0, (us1, (us2, tt)))) ∷ []) ∵
      split ! $ move ! (2 ∷ []) $ fsplit ! $ fsplit3 ! $ feq_l ! (λ e0. move ! (2 ∷ []) $ fsplit ! $ start_had ! start.at us1 (λ e1.
      fsplit ! $ fsplit ! $ feq_l ! (λ e2. flt_l ! (λ fits. keep ! (1 ∷ 2 ∷ 3 ∷ []) $
      by ! (subst (λ (vs : List Val × List Val × List Val). ent 𝓤 (⋆ 𝓛 Had) (WpFn 𝓤 H C Λ (function E) (vs.0 ++ (vs.1 ++ (vs.2 ++ []))) Post)) (λ j. (sym e0 j, sym e1 j, sym e2 j)) (walk e0 asked fits))))))

meets : (E : El) {M : Type 1} {𝓤 : Ura M} (𝓛 : Logic 𝓤) (𝓣 : Tables 𝓤 𝓛.H) → Meets 𝓛 (ended E).signature (WpFn 𝓤 𝓛.H 𝓣.C 𝓣.Λ (function E)) (closing 𝓛 (ended E) (spec E 𝓛))
meets E {𝓤 = 𝓤} 𝓛 𝓣 =
    walk_Meets 𝓛 (ended E) (stayed E)
    (Goes-ref 𝓛 1 0 tt (plain (λ _. Ps E)), (Goes-dropped 𝓛 1 (plain (λ _. St E)) no (λ κs x f. refl), (Goes-dropped 𝓛 1 (plain (λ _. usize)) no (λ κs x f. refl), tt)))
    (spec E 𝓛) (WpFn 𝓤 𝓛.H 𝓣.C 𝓣.Λ (function E)) (WpFn-mono 𝓤 𝓛.H 𝓛.laws 𝓣 (function E))
    (λ z. let a = z.0.3 in let us = z.0.4 in needs 𝓤 (Asks E a.0.now a.1.0 a.1.1.0) _
    (entry E 𝓛 𝓣.C 𝓣.Λ z.0.0.0 z.0.1.0 a.0.ref_ptr.0 a.0.ref_ptr.1 a.0.ghost_name a.0.now a.1.0 a.1.1.0 us.0 us.1.0 us.1.1.0))

pub read_spec : {M : Type 1} → stated.statement M
unfolding tables_of
read_spec 𝓤 𝓛 𝓜 𝓡 wired X LX y =
    let E : El = record { row = X; laws = LX } in
    let 𝓣 : Tables 𝓤 𝓛.H = tables_of 𝓤 𝓛.H 𝓜 (tables 𝓤 𝓛.H 𝓜 𝓡 𝓡.env) in
    let k = #self (args E) in
    spared 𝓛 (ended E).signature (𝓡.run (𝓡.env k)) (run_framed 𝓤 𝓛.H 𝓜 𝓡 (𝓡.env k)) 1 (X.lives, tt) (closing 𝓛 (ended E) (spec E 𝓛))
    (entered 𝓤 𝓛.H (triple_of 𝓛 (ended E).signature (closing 𝓛 (ended E) (spec E 𝓛))) 𝓣.C 𝓣.Λ k (function E) (code.unfolded 𝓤 𝓛.H 𝓜 𝓡 wired (X, tt)) (meets E 𝓛 𝓣))
    ((y.0.0, y.0.1, tt, y.0.3, y.0.4), y.1)

-- Results and what holds of them.
use Rattle.std.proofs.Common.{◌≡◌, Result, Ok, Err, subst, sym}
use Rattle.std.specs.Prelude.{OnOk, OnErr, IfOk, IfErr, IsErrAnd}

pub on_ok_more : {X E : Type 0} (r : Result X E) (P Q : Type 0) → (P → Q) → OnOk r P → OnOk r Q
on_ok_more (Ok value) P Q follows p = follows p
on_ok_more (Err fault) P Q follows p = tt

-- two facts of a success, and what follows from them
pub on_ok_two : {X E : Type 0} (r : Result X E) (P Q R : Type 0) → (P → Q → R) → OnOk r P → OnOk r Q → OnOk r R
on_ok_two (Ok value) P Q R follows p q = follows p q
on_ok_two (Err fault) P Q R follows p q = tt

pub if_ok_more : {X E : Type 0} (r : Result X E) (P Q : X → Type 0) → ((value : X) → P value → Q value) → IfOk r P → IfOk r Q
if_ok_more (Ok value) P Q follows p = follows value p
if_ok_more (Err fault) P Q follows p = tt

pub if_err_more : {X E : Type 0} (r : Result X E) (P Q : E → Type 0) → ((fault : E) → P fault → Q fault) → IfErr r P → IfErr r Q
if_err_more (Ok value) P Q follows p = tt
if_err_more (Err fault) P Q follows p = follows fault p

-- a fact of a success, what also holds then, and what follows from both
pub if_ok_two : {X E : Type 0} (r : Result X E) (P : X → Type 0) (Q : Type 0) (R : X → Type 0) → ((value : X) → P value → Q → R value)
    → IfOk r P → OnOk r Q → IfOk r R
if_ok_two (Ok value) P Q R follows p q = follows value p q
if_ok_two (Err fault) P Q R follows p q = tt

pub if_err_two : {X E : Type 0} (r : Result X E) (P : E → Type 0) (Q : Type 0) (R : E → Type 0) → ((fault : E) → P fault → Q → R fault)
    → IfErr r P → OnErr r Q → IfErr r R
if_err_two (Ok value) P Q R follows p q = tt
if_err_two (Err fault) P Q R follows p q = follows fault p q

-- a fault that `?` hands on
pub handed_on : {X E : Type 0} (r : Result X E) (P : E → Type 0) (fault : E) → IsErrAnd r (λ other. other ≡ fault) → P fault → IfErr r P
handed_on (Ok value) P fault is holds = tt
handed_on (Err other) P fault is holds = subst P (sym is) holds

-- What a line makes of one context, or of one command that waits, among the others.
use Rattle.std.proofs.Common.{◌≡◌, ℕ, zero, suc, ◌<◌, List, [], ◌∷◌, length, get_or, set, refl, sym, ap, ◌∙◌, arith, Some, None, bytes_eq}
use Rattle.std.specs.Prelude.{◌↔◌, Result, Ok, Err, OnOk, Option, option_map}
use Rattle.std.specs.Option.{option_and_then}
use Rattle.std.specs.List.{position, remove}
use Rattle.acap_grammar.specs.Printed.{PrintedRow}
use Rattle.acap_client.specs.Following.{Kept, Asked, Making, Freeing, Follower, with_row, look_up, put, without}
use Rattle.acap_client.specs.Keeping.{changed_in, freed_in, freed_kept, freed_where, row_added, row_where, with_row_of, done_in, made_of}
use Rattle.acap_client.proofs.UnderNames.{seat, seat_some, seat_none, key_at, look_at, look_past, put_at, put_same, without_at, without_past}

module _ {A : Type 0} where
  abbrev stands : List ℕ → List (List ℕ × A) → Option ℕ
  stands name es = position (λ e. bytes_eq name e.0) es

  -- what stands under a name that is there
  pub found_at : (name : List ℕ) (es : List (List ℕ × A)) (at : ℕ) (d : List ℕ × A) → Some at ≡ stands name es → d ≡ get_or es at d → look_up name es ≡ Some d.1
  found_at name es at d e is =
      let s = seat_some name es at e in
      look_at name es d (omega (arith, s.0, s.1)) ∙ ap (λ i. Some (get_or es i d).1) (sym s.0) ∙ ap (λ x. Some x.1) (sym is)

  pub found_not : (name : List ℕ) (es : List (List ℕ × A)) → None ≡ stands name es → look_up name es ≡ None
  found_not name es e = look_past name es (seat_none name es e)

  pub set_there : (name : List ℕ) (es : List (List ℕ × A)) (at : ℕ) (d : List ℕ × A) (x : A) → Some at ≡ stands name es → d ≡ get_or es at d → put name x es ≡ set es at (d.0, x)
  set_there name es at d x e is =
      let s = seat_some name es at e in
      let below : seat name es < length es = omega (arith, s.0, s.1) in
      let key : d.0 ≡ name = ap (λ e. e.0) is ∙ ap (λ i. (get_or es i d).0) s.0 ∙ key_at name es d below in
      put_at name x es below ∙ ap (λ i. set es i (name, x)) (sym s.0) ∙ ap (λ k. set es at (k, x)) (sym key)

  remove_set : (es : List (List ℕ × A)) (at : ℕ) (d : List ℕ × A) → remove (set es at d) at ≡ remove es at
  remove_set [] zero d = refl
  remove_set [] (suc at) d = refl
  remove_set (e ∷ es) zero d = refl
  remove_set (e ∷ es) (suc at) d = ap (λ t. e ∷ t) (remove_set es at d)

  pub none_left : (name : List ℕ) (es : List (List ℕ × A)) → None ≡ stands name es → es ≡ without name es
  none_left name es e = sym (without_past name es (seat_none name es e))

  pub others_left : (name : List ℕ) (es : List (List ℕ × A)) (at : ℕ) → Some at ≡ stands name es → without name (remove es at) ≡ without name es
  others_left name es at e = ap (λ i. without name (remove es i)) (seat_some name es at e).0 ∙ without_at name es

  -- others are left of what was changed there, too
  pub others_after : (name : List ℕ) (es : List (List ℕ × A)) (at : ℕ) (d : List ℕ × A) → Some at ≡ stands name es → without name (remove (set es at d) at) ≡ without name es
  others_after name es at d e = ap (without name) (remove_set es at d) ∙ others_left name es at e

-- ---- a context

pub not_held : (change : Kept → Option Kept) (context : List ℕ) (es : List (List ℕ × Kept)) → None ≡ position (λ e. bytes_eq context e.0) es → changed_in change context es ≡ None
not_held change context es e = ap (λ o. option_map (λ kept. put context kept es) (option_and_then change o)) (found_not context es e)

pub held_at : (change : Kept → Option Kept) (context : List ℕ) (es : List (List ℕ × Kept)) (at : ℕ) (d : List ℕ × Kept) → Some at ≡ position (λ e. bytes_eq context e.0) es → d ≡ get_or es at d
    → changed_in change context es ≡ option_map (λ kept. set es at (d.0, kept)) (change d.1)
held_at change context es at d e is =
    ap (λ o. option_map (λ kept. put context kept es) (option_and_then change o)) (found_at context es at d e is)
    ∙ elim (change d.1) as (λ o. option_map (λ kept. put context kept es) o ≡ option_map (λ kept. set es at (d.0, kept)) o) [
      | None ↦ refl
      | (Some kept) ↦ ap Some (set_there context es at d kept e is)
    ]

pub freed_at : (context : List ℕ) (es : List (List ℕ × Kept)) (at : ℕ) (d : List ℕ × Kept) (new : Kept) → Some at ≡ position (λ e. bytes_eq context e.0) es → d ≡ get_or es at d → new ≡ freed_kept d.1
    → set es at (d.0, new) ≡ freed_in context es
freed_at context es at d new e is free =
    ap (λ x. set es at (d.0, x)) free ∙ sym (set_there context es at d (freed_kept d.1) e is) ∙ ap (λ o. freed_where o context es) (sym (found_at context es at d e is))

pub freed_not : (context : List ℕ) (es : List (List ℕ × Kept)) → None ≡ position (λ e. bytes_eq context e.0) es → es ≡ freed_in context es
freed_not context es e = ap (λ o. freed_where o context es) (sym (found_not context es e))

-- what a change of one context says of them all
pub ok_there : {A B F : Type 0} (result : Result (Unit {0}) F) (whole : Option B) (one : Option A) (f : A → B) (new : A) → whole ≡ option_map f one → OnOk result (one ≡ Some new) → OnOk result (whole ≡ Some (f new))
ok_there (Ok done) whole one f new e ok = e ∙ ap (option_map f) ok
ok_there (Err fault) whole one f new e ok = tt

none_there : {A B : Type 0} (one : Option A) (f : A → B) → option_map f one ≡ None → one ≡ None
none_there None f = λ e. refl
none_there (Some x) f = λ e. absurd (cc e)

pub misfit_there : {A B P : Type 0} (whole : Option B) (one : Option A) (f : A → B) → whole ≡ option_map f one → P ↔ (one ≡ None) → P ↔ (whole ≡ None)
misfit_there whole one f e h = (λ p. e ∙ ap (option_map f) (h.0 p), λ n. h.1 (none_there one f (sym e ∙ n)))

-- ---- a command that waits

pub row_not : (tag : List ℕ) (row : PrintedRow) (es : List (List ℕ × Asked)) → None ≡ position (λ e. bytes_eq tag e.0) es → es ≡ row_added tag row es
row_not tag row es e = ap (λ o. row_where o tag row es) (sym (found_not tag es e))

pub row_at : {F : Type 0} (result : Result (Unit {0}) F) (tag : List ℕ) (row : PrintedRow) (es : List (List ℕ × Asked)) (at : ℕ) (d : List ℕ × Asked) (new : Asked) → Some at ≡ position (λ e. bytes_eq tag e.0) es → d ≡ get_or es at d
    → OnOk result (new ≡ with_row_of row d.1) → OnOk result (set es at (d.0, new) ≡ row_added tag row es)
row_at (Ok done) tag row es at d new e is ok =
    ap (λ x. set es at (d.0, x)) ok ∙ sym (set_there tag es at d (with_row_of row d.1) e is) ∙ ap (λ o. row_where o tag row es) (sym (found_at tag es at d e is))
row_at (Err fault) tag row es at d new e is ok = tt

pub done_not : (tag : List ℕ) (es : List (List ℕ × Asked)) (contexts : List (List ℕ × Kept)) → None ≡ position (λ e. bytes_eq tag e.0) es → contexts ≡ done_in (look_up tag es) contexts
done_not tag es contexts e = ap (λ o. done_in o contexts) (sym (found_not tag es e))

pub done_at : (tag : List ℕ) (es : List (List ℕ × Asked)) (contexts : List (List ℕ × Kept)) (at : ℕ) (d : List ℕ × Asked) → Some at ≡ position (λ e. bytes_eq tag e.0) es → d ≡ get_or es at d
    → made_of d.1 contexts ≡ done_in (look_up tag es) contexts
done_at tag es contexts at d e is = ap (λ o. done_in o contexts) (sym (found_at tag es at d e is))

set_get : {A : Type 0} (es : List A) (at : ℕ) (x r : A) → at < length es → get_or (set es at x) at r ≡ x
set_get [] at x r h = absurd (omega arith)
set_get (e ∷ es) zero x r h = refl
set_get (e ∷ es) (suc at) x r h = set_get es at x r (omega (arith, h))

-- the same where it was changed before it was taken out, and makes the same
pub done_after : (tag : List ℕ) (es : List (List ℕ × Asked)) (contexts : List (List ℕ × Kept)) (at : ℕ) (d r : List ℕ × Asked) (new : Asked) → Some at ≡ position (λ e. bytes_eq tag e.0) es → d ≡ get_or es at d
    → made_of new contexts ≡ made_of d.1 contexts → r ≡ get_or (set es at (d.0, new)) at r → made_of r.1 contexts ≡ done_in (look_up tag es) contexts
done_after tag es contexts at d r new e is same taken =
    let s = seat_some tag es at e in
    let whole : r ≡ (d.0, new) = taken ∙ set_get es at (d.0, new) r (omega (arith, s.1)) in
    ap (λ r. made_of r.1 contexts) whole ∙ same ∙ done_at tag es contexts at d e is

row_given : (tag : List ℕ) (row : PrintedRow) (f : Follower) (o : Option Asked) → look_up tag f.asked ≡ o → record f { asked = row_where o tag row f.asked } ≡ with_row tag row o f
row_given tag row f None e = refl
row_given tag row f (Some (Making make rows)) e = refl
row_given tag row f (Some (Freeing context)) e = ap (λ t. record f { asked = t }) (put_same tag (Freeing context) f.asked e)

-- a row that comes under a tag
pub row_kept : (tag : List ℕ) (row : PrintedRow) (f : Follower) → record f { asked = row_added tag row f.asked } ≡ with_row tag row (look_up tag f.asked) f
row_kept tag row f = row_given tag row f (look_up tag f.asked) refl

pub row_ok : {F : Type 0} (result : Result (Unit {0}) F) (tag : List ℕ) (row : PrintedRow) (f : Follower) (new : List (List ℕ × Asked)) → OnOk result (new ≡ row_added tag row f.asked)
    → OnOk result (record { contexts = f.contexts; asked = new } ≡ with_row tag row (look_up tag f.asked) f)
row_ok (Ok done) tag row f new ok = ap (λ t. record f { asked = t }) ok ∙ row_kept tag row f
row_ok (Err fault) tag row f new ok = tt

-- Refusals in their order, and what is written and when.
use Rattle.std.proofs.Common.{◌≡◌, ℕ, zero, suc, subst, arith, ℤ, pos, negsuc, ◌+ℤ◌, true, false, cond, ◌&&◌, List, [], ◌∷◌, ◌++◌, map, Option, Some, None, Ok, Err, refl, sym, ap, ◌∙◌}
use Rattle.std.specs.Prelude.{int_lt, is_none, unwrap_or}
use Rattle.std.proofs.lemmas.Bool.{lt-ltb}
use Rattle.std.proofs.lemmas.Map.Text.{is_eq-slice_cmp}
use Rattle.std.proofs.Math.IntN.{suc_ℤ, +ℤ_one}
use Rattle.std.specs.List.{list_any, list_all}
use Rattle.std.specs.Option.{option_or}
use Rattle.std.specs.Ordering.{eq_by_cmp, int_eq, is_eq}
use Rattle.std.specs.FinMap.{find, get, empty, get-insert, get-empty}
use Rattle.acap_entries.specs.Moments.{moment_after, last_moment}
use Rattle.acap_entries.specs.Orders.{octets_cmp, octets_eq}
use Rattle.acap_entries.specs.Store.{Stored, Store, Written, path_cmp, after_edit}
use Rattle.acap_entries.specs.declared.change.Change.{Change}
use Rattle.acap_entries.specs.declared.path.Path.{Path}
use Rattle.acap_entries.specs.declared.change.RecordEdit.{RecordEdit}
use Rattle.acap_entries.proofs.StoreLemmas.{path_cmp_total}
use Rattle.acap_commands.specs.declared.refusal.Refusal.{Refusal}
use Rattle.acap_commands.specs.declared.refusal.Refusal.TheVariants as refusal
use Rattle.acap_commands.specs.declared.store.StoreEntry.{StoreEntry}
use Rattle.acap_rights.specs.declared.realm.Realm.{Realm}
use Rattle.acap_store.specs.Laws.{OrderLaw, IsFirst, PathLaw, KeptLaw, LaterLaw, refusals, entries_of}
use Rattle.acap_store.specs.Limits.{gives_large, is_too_much}
use Rattle.acap_store.specs.Meaning.{meaning}
use Rattle.acap_store.specs.Planning.{planned_for, refusals_of, refusals_by_terms, unless_refused, change_of, written_at}
use Rattle.acap_store.specs.Refusing.{first_of, same_path, refused_if}
use Rattle.acap_store.specs.Writing.{put_all, written_for, steps_for, entry_at, step_at, missing_for}
use Rattle.acap_store.specs.declared.write.ResolvedWrite.{ResolvedWrite}
use Rattle.acap_entries.proofs.AfterLemmas.{get_after}
use Rattle.acap_ordmap.proofs.Logic.{first_not, second_not, is_eq-then}

-- ---- the first refusal

refused_by : (all : List (Option Refusal)) (change : Change) (r : Refusal) → unless_refused (first_of all) change ≡ Err r → IsFirst r all
refused_by [] change r e = cc
refused_by (None ∷ all) change r e =
    let rest = refused_by all change r e in
    record { before = None ∷ rest.before; behind = rest.behind; whole = ap (λ t. None ∷ t) rest.whole; none_before = rest.none_before }
refused_by (Some first ∷ all) change r e =
    let same : first ≡ r = cc in
    record { before = []; behind = all; whole = ap (λ t. Some t ∷ all) (sym same); none_before = refl }

first_there : (before behind : List (Option Refusal)) (r : Refusal) → list_all is_none before ≡ true → first_of (before ++ Some r ∷ behind) ≡ Some r
first_there [] behind r e = refl
first_there (None ∷ before) behind r e = first_there before behind r e
first_there (Some x ∷ before) behind r e = cc

by_first : (all : List (Option Refusal)) (change : Change) (r : Refusal) → IsFirst r all → unless_refused (first_of all) change ≡ Err r
by_first all change r f =
    ap (λ t. unless_refused (first_of t) change) (sym f.whole) ∙ ap (λ o. unless_refused o change) (first_there f.before f.behind r f.none_before)

none_by : (all : List (Option Refusal)) (change made : Change) → unless_refused (first_of all) change ≡ Ok made → list_all is_none all ≡ true
none_by [] change made e = refl
none_by (None ∷ all) change made e = none_by all change made e
none_by (Some first ∷ all) change made e = cc

pub order : OrderLaw
unfolding planned_for
order = record {
  refused = λ s realm user write now r. (refused_by (refusals s realm user write now) _ r, by_first (refusals s realm user write now) _ r);
  accepted = λ s realm user write now change e. none_by (refusals s realm user write now) _ change e;
}

-- ---- what is accepted

accepted_is : (all : List (Option Refusal)) (change made : Change) → unless_refused (first_of all) change ≡ Ok made → made ≡ change
accepted_is [] change made e = cc
accepted_is (None ∷ all) change made e = accepted_is all change made e
accepted_is (Some first ∷ all) change made e = cc

pub change_is : (s : Store) (realm : Realm) (user : List ℕ) (meant : ResolvedWrite) (now : ℤ) (change : Change) → planned_for s realm user meant now ≡ Ok change → change ≡ change_of s user meant.entries (written_at s now)
unfolding planned_for
change_is s realm user meant now change e = accepted_is (refusals_of s realm user meant now) _ change e

pub writes_are : (s : Store) (realm : Realm) (user : List ℕ) (meant : ResolvedWrite) (now : ℤ) (change : Change) → planned_for s realm user meant now ≡ Ok change → change.writes ≡ written_for s.records user meant.entries change.moment
unfolding change_of
writes_are s realm user meant now change e =
    let is = change_is s realm user meant now change e in
    let moment : change.moment ≡ written_at s now = ap (λ (c : Change). c.moment) is in
    ap (λ (c : Change). c.writes) is ∙ ap (λ m. written_for s.records user meant.entries m) (sym moment)

-- ---- path by path

get_put : (ws : List (Path × RecordEdit)) (w : Written) (p : Path) → get (put_all ws w) p ≡ option_or (find path_cmp p ws) (get w p)
get_put [] w p = refl
get_put (x ∷ ws) w p =
    get-insert path_cmp_total (put_all ws w) x.0 x.1 p
    ∙ elim (eq_by_cmp path_cmp p x.0) as (λ b. cond b (Some x.1) (get (put_all ws w) p) ≡ option_or (cond b (Some x.1) (find path_cmp p ws)) (get w p)) [
      | true ↦ refl
      | false ↦ get_put ws w p
    ]

or_none : (o : Option RecordEdit) → option_or o None ≡ o
or_none None = refl
or_none (Some x) = refl

pub steps_at : (records : Stored) (entries : List StoreEntry) (moment : ℤ) (p : Path) → get (steps_for records entries moment) p ≡ find path_cmp p (map (step_at records moment) (missing_for records entries))
unfolding steps_for
steps_at records entries moment p =
    get_put (map (step_at records moment) (missing_for records entries)) empty p
    ∙ ap (option_or (find path_cmp p (map (step_at records moment) (missing_for records entries)))) (get-empty path_cmp p) ∙ or_none _

pub written_is : (records : Stored) (user : List ℕ) (entries : List StoreEntry) (moment : ℤ) (p : Path) →
    get (written_for records user entries moment) p
    ≡ option_or (find path_cmp p (map (entry_at records user (steps_for records entries moment) moment) entries)) (find path_cmp p (map (step_at records moment) (missing_for records entries)))
unfolding written_for
written_is records user entries moment p =
    get_put (map (entry_at records user (steps_for records entries moment) moment) entries) (steps_for records entries moment) p
    ∙ ap (option_or (find path_cmp p (map (entry_at records user (steps_for records entries moment) moment) entries))) (steps_at records entries moment p)

pub path_law : PathLaw
path_law s realm user write now change e p =
    let writes = writes_are s realm user (meaning s.records user write) now change e in
    get_after change.writes s.records p
    ∙ ap (λ o. after_edit o (get s.records p)) (ap (λ w. get w p) writes ∙ written_is s.records user (entries_of s user write) change.moment p)

-- ---- what is kept

octets_same : (a b : List ℕ) → is_eq (octets_cmp a b) ≡ octets_eq a b
octets_same a b = is_eq-slice_cmp a b

pub path_tie : (p q : Path) → eq_by_cmp path_cmp p q ≡ same_path p q
path_tie p q =
    is_eq-then (octets_cmp p.dataset q.dataset) (octets_cmp p.name q.name)
    ∙ ap (λ b. b && is_eq (octets_cmp p.name q.name)) (octets_same p.dataset q.dataset)
    ∙ ap (λ b. octets_eq p.dataset q.dataset && b) (octets_same p.name q.name)

-- what is written of a list at paths of its own is nowhere else
not_found : {A : Type 0} (at : A → Path) (edit : A → RecordEdit) (p : Path) (xs : List A) → list_any (λ x. same_path p (at x)) xs ≡ false → find path_cmp p (map (λ x. (at x, edit x)) xs) ≡ None
not_found at edit p [] e = refl
not_found at edit p (x ∷ xs) e =
    ap (λ b. cond b (Some (edit x)) (find path_cmp p (map (λ x. (at x, edit x)) xs))) (path_tie p (at x) ∙ first_not _ _ e)
    ∙ not_found at edit p xs (second_not _ _ e)

pub kept_law : KeptLaw
kept_law s realm user write now change e p no_entry no_step =
    path_law s realm user write now change e p
    ∙ ap (λ o. after_edit (option_or o (find path_cmp p (map (step_at s.records change.moment) (missing_for s.records (entries_of s user write))))) (get s.records p))
    (not_found (λ (e : StoreEntry). e.path) (λ e. (entry_at s.records user (steps_for s.records (entries_of s user write) change.moment) change.moment e).1) p (entries_of s user write) no_entry)
    ∙ ap (λ o. after_edit o (get s.records p)) (not_found (λ q. q) (λ q. (step_at s.records change.moment q).1) p (missing_for s.records (entries_of s user write)) no_step)

-- ---- moments rise

below_next : (z : ℤ) → int_lt z (suc_ℤ z) ≡ true
below_next (pos n) = lt-ltb n (suc n) (omega arith)
below_next (negsuc zero) = refl
below_next (negsuc (suc n)) = lt-ltb n (suc n) (omega arith)

next_later : (z : ℤ) → int_lt z (z +ℤ pos 1) ≡ true
next_later z = ap (int_lt z) (+ℤ_one z) ∙ below_next z

after_later : (last clock moment : ℤ) → moment_after last clock ≡ Some moment → int_lt last moment ≡ true
after_later last clock moment = elim (int_eq last last_moment) as (λ b. cond b None (cond (int_lt last clock) (Some clock) (Some (last +ℤ pos 1))) ≡ Some moment → int_lt last moment ≡ true) [
  | true ↦ λ e. cc
  | false ↦ elim (int_lt last clock) as (λ b. int_lt last clock ≡ b → cond b (Some clock) (Some (last +ℤ pos 1)) ≡ Some moment → int_lt last moment ≡ true) [
    | true ↦ λ p e. let same : clock ≡ moment = cc in subst (λ m. int_lt last m ≡ true) same p
    | false ↦ λ p e. let same : last +ℤ pos 1 ≡ moment = cc in subst (λ m. int_lt last m ≡ true) same (next_later last)
  ] refl
]

-- where no refusal is left, there is a later moment
last_of : (front : List (Option Refusal)) (last : Option Refusal) → list_all is_none (front ++ last ∷ []) ≡ true → is_none last ≡ true
last_of [] None e = refl
last_of [] (Some r) e = cc
last_of (None ∷ front) last e = last_of front last e
last_of (Some r ∷ front) last e = cc

there_is : (o : Option ℤ) (last : ℤ) → is_none (refused_if (is_none o) refusal.ClockEnd) ≡ true → o ≡ Some (unwrap_or o last)
there_is None last e = cc
there_is (Some moment) last e = refl

later_for : (s : Store) (realm : Realm) (user : List ℕ) (meant : ResolvedWrite) (now : ℤ) (change : Change) → planned_for s realm user meant now ≡ Ok change → int_lt s.last change.moment ≡ true
unfolding planned_for refusals_of change_of
later_for s realm user meant now change e =
    let none = none_by (refusals_of s realm user meant now) _ change e in
    let written = written_for s.records user meant.entries (written_at s now) in
    let limit = refused_if (is_too_much s.records (gives_large meant.entries) written) refusal.Limit in
    let some = there_is (moment_after s.last now) s.last (last_of (refusals_by_terms s.records realm user meant ++ limit ∷ []) _ none) in
    let moment : written_at s now ≡ change.moment = sym (ap (λ (c : Change). c.moment) (accepted_is (refusals_of s realm user meant now) _ change e)) in
    after_later s.last now change.moment (some ∙ ap Some moment)

pub later_law : LaterLaw
later_law s realm user write now change e = later_for s realm user (meaning s.records user write) now change e

-- How far a text leads, and how far a longer one.
use Rattle.std.proofs.Common.{◌≡◌, ℕ, zero, suc, ◌+◌, ◌<◌, ◌≤◌, List, [], ◌++◌, length, Some, None, refl, sym, ap, subst, ◌∙◌, arith, length-append}
use Rattle.acap_lexer.specs.declared.lexed.Lexed.{Lexed}
use Rattle.acap_lexer.specs.declared.lexed.Mode.{Mode}
use Rattle.acap_lexer.specs.Stream.{Stage, AtPart, InLiteral, Step, Waits, Ends, Goes, Progress, IsItem, step_of, octets_of, beginning, nothing, waiting, progress_by, progress_within, progress_from, progress}
use Rattle.acap_lexer.proofs.StepOutcomes.{Tells, Onwards, FitsIn, rank, step_tells}

some_rank : (stage : Stage) (text : List ℕ) → 0 < rank stage text
some_rank (AtPart front) text = omega arith
some_rank (InLiteral start count front) text = omega arith

full_rank : (stage : Stage) (text : List ℕ) → rank stage text ≤ suc (suc (suc (length text)))
full_rank (AtPart front) text = omega arith
full_rank (InLiteral start count front) text = omega arith

same_by : (mode : Mode) (stage : Stage) (text : List ℕ) (go on : Stage → Progress) (step : Step) → Tells mode stage text step
    → ((next : Stage) → Onwards stage next text → go next ≡ on next) → progress_by go step ≡ progress_by on step
same_by mode stage text go on Waits t same = refl
same_by mode stage text go on (Ends item n) t same = refl
same_by mode stage text go on (Goes p next) t same = ap (waiting p) (same next t.0)

-- more than enough changes nothing
enough : (m n : ℕ) (mode : Mode) (stage : Stage) (text : List ℕ) → octets_of stage ≤ length text → rank stage text ≤ m → rank stage text ≤ n
    → progress_within m mode stage text ≡ progress_within n mode stage text
unfolding progress_within
enough zero n mode stage text within a b = absurd (omega (arith, some_rank stage text))
enough (suc m) zero mode stage text within a b = absurd (omega (arith, some_rank stage text))
enough (suc m) (suc n) mode stage text within a b =
    same_by mode stage text (λ s. progress_within m mode s text) (λ s. progress_within n mode s text) (step_of mode stage text) (step_tells mode stage text within)
    (λ next o. enough m n mode next text o.within (omega (arith, o.nearer)) (omega (arith, o.nearer)))

-- How far a text leads is what comes of its stages, one after the other.
pub by_stages : (mode : Mode) (stage : Stage) (text : List ℕ) → octets_of stage ≤ length text
    → progress_from mode stage text ≡ progress_by (λ next. progress_from mode next text) (step_of mode stage text)
unfolding progress_from progress_within
by_stages mode stage text within =
    same_by mode stage text (λ s. progress_within (suc (suc (length text))) mode s text) (λ s. progress_within (suc (suc (suc (length text)))) mode s text) (step_of mode stage text) (step_tells mode stage text within)
    (λ next o. enough (suc (suc (length text))) (suc (suc (suc (length text)))) mode next text o.within (omega (arith, o.nearer, full_rank stage text)) (omega (arith, o.nearer, full_rank stage text)))

-- how far a text leads from a stage on, beside how far a longer text does
pub record Follows (stage : Stage) (text : List ℕ) (here longer : Progress) : Type 0 where
  pub waits : here.waits ≤ longer.waits
  pub item : (x : Lexed × ℕ) → here.item ≡ Some x → (longer.item ≡ Some x) × (longer.waits ≡ here.waits) × IsItem x.0 × (0 < x.1) × (x.1 ≤ length text)
  pub room : here.item ≡ None → FitsIn stage → length text < 270336

follows_ends : (stage : Stage) (text : List ℕ) (item : Lexed) (n : ℕ) → octets_of stage < n → n ≤ length text → IsItem item
    → Follows stage text (record { waits = 0; item = Some (item, n) }) (record { waits = 0; item = Some (item, n) })
follows_ends stage text item n some within is = record {
  waits = omega arith;
  item = λ x e. let same : ◌≡◌ {A = Lexed × ℕ} (item, n) x = cc in (e, refl, subst (λ (y : Lexed × ℕ). IsItem y.0) same is, omega (arith, ap (λ y. y.1) same), omega (arith, ap (λ y. y.1) same));
  room = λ none. absurd cc;
}

follows_goes : (stage next : Stage) (text : List ℕ) (p : ℕ) (here longer : Progress) → Onwards stage next text → Follows next text here longer
    → Follows stage text (waiting p here) (waiting p longer)
follows_goes stage next text p here longer o f = record {
  waits = omega (arith, f.waits);
  item = λ x e. let g = f.item x e in (g.0, ap (λ n. p + n) g.1, g.2, g.3, g.4);
  room = λ none fits. f.room none (o.fits fits);
}

follows_by : (mode : Mode) (stage : Stage) (text more : List ℕ) (step : Step) → octets_of stage ≤ length text → step_of mode stage text ≡ step → Tells mode stage text step
    → ((next : Stage) → Onwards stage next text → Follows next text (progress_from mode next text) (progress_from mode next (text ++ more)))
    → Follows stage text (progress_from mode stage text) (progress_from mode stage (text ++ more))
follows_by mode stage text more Waits within e t later =
    let here : progress_from mode stage text ≡ nothing = by_stages mode stage text within ∙ ap (progress_by (λ next. progress_from mode next text)) e in
    let f : Follows stage text nothing (progress_from mode stage (text ++ more)) = record { waits = omega arith; item = λ x none. absurd cc; room = λ none fits. t fits } in
    subst (λ (p : Progress). Follows stage text p (progress_from mode stage (text ++ more))) (sym here) f
follows_by mode stage text more (Ends item n) within e t later =
    let here : progress_from mode stage text ≡ record { waits = 0; item = Some (item, n) } = by_stages mode stage text within ∙ ap (progress_by (λ next. progress_from mode next text)) e in
    let longer : progress_from mode stage (text ++ more) ≡ record { waits = 0; item = Some (item, n) } = by_stages mode stage (text ++ more) (omega (arith, length-append text more)) ∙ ap (progress_by (λ next. progress_from mode next (text ++ more))) (t.3 more) in
    let f = follows_ends stage text item n (omega (arith, t.0)) t.1 t.2 in
    subst (λ (p : Progress). Follows stage text p (progress_from mode stage (text ++ more))) (sym here) (subst (λ (p : Progress). Follows stage text (record { waits = 0; item = Some (item, n) }) p) (sym longer) f)
follows_by mode stage text more (Goes k next) within e t later =
    let here : progress_from mode stage text ≡ waiting k (progress_from mode next text) = by_stages mode stage text within ∙ ap (progress_by (λ next. progress_from mode next text)) e in
    let longer : progress_from mode stage (text ++ more) ≡ waiting k (progress_from mode next (text ++ more)) = by_stages mode stage (text ++ more) (omega (arith, length-append text more)) ∙ ap (progress_by (λ next. progress_from mode next (text ++ more))) (t.1 more) in
    let f = follows_goes stage next text k (progress_from mode next text) (progress_from mode next (text ++ more)) t.0 (later next t.0) in
    subst (λ (p : Progress). Follows stage text p (progress_from mode stage (text ++ more))) (sym here) (subst (λ (p : Progress). Follows stage text (waiting k (progress_from mode next text)) p) (sym longer) f)

follows_within : (n : ℕ) (mode : Mode) (stage : Stage) (text more : List ℕ) → octets_of stage ≤ length text → rank stage text ≤ n
    → Follows stage text (progress_from mode stage text) (progress_from mode stage (text ++ more))
follows_within zero mode stage text more within few = absurd (omega (arith, some_rank stage text))
follows_within (suc n) mode stage text more within few =
    follows_by mode stage text more (step_of mode stage text) within refl (step_tells mode stage text within)
    (λ next o. follows_within n mode next text more o.within (omega (arith, o.nearer)))

pub follows : (mode : Mode) (text more : List ℕ) → Follows beginning text (progress mode text) (progress mode (text ++ more))
unfolding progress
follows mode text more = follows_within (rank beginning text) mode beginning text more (omega arith) (omega arith)

pub keeps_items : (mode : Mode) (text more : List ℕ) (x : Lexed × ℕ) → (progress mode text).item ≡ Some x → ((progress mode (text ++ more)).item ≡ Some x) × ((progress mode (text ++ more)).waits ≡ (progress mode text).waits)
keeps_items mode text more x e = let f = (follows mode text more).item x e in (f.0, f.1)

pub keeps_waits : (mode : Mode) (text more : List ℕ) → (progress mode text).waits ≤ (progress mode (text ++ more)).waits
keeps_waits mode text more = (follows mode text more).waits

pub takes_octets : (mode : Mode) (text : List ℕ) (x : Lexed × ℕ) → (progress mode text).item ≡ Some x → IsItem x.0 × (0 < x.1) × (x.1 ≤ length text)
takes_octets mode text x e = let f = (follows mode text []).item x e in (f.2, f.3, f.4)

pub leaves_room : (mode : Mode) (text : List ℕ) → (progress mode text).item ≡ None → length text < 270336
leaves_room mode text none = (follows mode text []).room none (omega arith)

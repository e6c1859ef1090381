-- What asking for a command answers, and leaves to be answered.
use Rattle.std.proofs.Common.{◌≡◌, ℕ, suc, ◌+◌, ◌-◌, ◌<◌, ◌≤◌, ◌⊎◌, List, [], ◌∷◌, ◌++◌, Option, Some, None, refl, sym, ap, subst, ◌∙◌, arith, cond, append_assoc, inl, inr}
use Rattle.std.specs.Prelude.{replicate}
use Rattle.std.proofs.lemmas.List.{drop-append-le}
use Rattle.std.proofs.lemmas.Bool.{cases_lt, le-ltb, lt-ltb}
use Rattle.acap_lexer.specs.declared.outcomes.Due.{Due}
use Rattle.acap_lexer.specs.declared.outcomes.Due.TheVariants as dues
use Rattle.acap_lexer.specs.declared.fault.LexFault.{LexFault}
use Rattle.acap_lexer.specs.declared.lexed.Lexed.{Lexed}
use Rattle.acap_lexer.specs.declared.lexed.Lexed.TheVariants.{More, Plus, Fatal}
use Rattle.acap_lexer.specs.declared.lexed.Mode.{Mode}
use Rattle.acap_lexer.specs.Holding.{Held}
use Rattle.acap_lexer.specs.Held.{fatal_of, held_behind, next_of, next_by, next_by_item, answers_from, answers_by_item}
use Rattle.acap_lexer.specs.Owing.{Owes, with_more}
use Rattle.acap_lexer.specs.Scanning.{IsDue}
use Rattle.acap_lexer.specs.Stream.{IsItem, progress}
use Rattle.acap_lexer.proofs.ProgressLaws.{keeps_items, keeps_waits, takes_octets}

-- a continuation was due
pub record Continues (mode : Mode) (old : Held) (r : Lexed × Held) : Type 0 where
  pub due : old.told < (progress mode old.text).waits
  pub is : r ≡ (Plus, record { text = old.text; told = old.told + 1; fatal = None })

-- nothing more is whole
pub record Lacks (mode : Mode) (old : Held) (r : Lexed × Held) : Type 0 where
  pub told : (progress mode old.text).waits ≤ old.told
  pub none : (progress mode old.text).item ≡ None
  pub is : r ≡ (More, old)

-- an item was there
pub record Finds (mode : Mode) (old : Held) (r : Lexed × Held) : Type 0 where
  pub item : Lexed × ℕ
  pub told : (progress mode old.text).waits ≤ old.told
  pub some : (progress mode old.text).item ≡ Some item
  pub is : r ≡ (item.0, held_behind item old.text)

by_item : (mode : Mode) (old : Held) (o : Option (Lexed × ℕ)) → (progress mode old.text).item ≡ o → (progress mode old.text).waits ≤ old.told
    → Lacks mode old (next_by_item old o) ⊎ Finds mode old (next_by_item old o)
by_item mode old None e told = inl (record { told = told; none = e; is = refl })
by_item mode old (Some x) e told = inr (record { item = x; told = told; some = e; is = refl })

plus_next : (mode : Mode) (old : Held) → old.fatal ≡ None → old.told < (progress mode old.text).waits → next_of mode old ≡ (Plus, record { text = old.text; told = old.told + 1; fatal = None })
unfolding next_of
plus_next mode old going lt =
    ap (λ f. next_by f old (progress mode old.text)) going
    ∙ ap (λ b. let r : Lexed × Held = cond b (Plus, record { text = old.text; told = old.told + 1; fatal = None }) (next_by_item old (progress mode old.text).item) in r) (lt-ltb _ _ lt)

item_next : (mode : Mode) (old : Held) → old.fatal ≡ None → (progress mode old.text).waits ≤ old.told → next_of mode old ≡ next_by_item old (progress mode old.text).item
unfolding next_of
item_next mode old going le =
    ap (λ f. next_by f old (progress mode old.text)) going
    ∙ ap (λ b. let r : Lexed × Held = cond b (Plus, record { text = old.text; told = old.told + 1; fatal = None }) (next_by_item old (progress mode old.text).item) in r) (le-ltb _ _ le)

-- what is answered where this is due, and what is held then
abbrev pub answer_to : Due → Held → Lexed × Held
answer_to dues.Plus h = (Plus, record { text = h.text; told = h.told + 1; fatal = h.fatal })
answer_to dues.More h = (More, h)
answer_to (dues.Item lexed n) h = (lexed, held_behind (lexed, n) h.text)

pub due_next : (mode : Mode) (old : Held) (due : Due) → old.fatal ≡ None → IsDue mode old.told old.text due → next_of mode old ≡ answer_to due old
due_next mode old dues.Plus going due =
    plus_next mode old going due ∙ ap (λ f. let r : Lexed × Held = (Plus, record { text = old.text; told = old.told + 1; fatal = f }) in r) (sym going)
due_next mode old dues.More going due = item_next mode old going due.0 ∙ ap (next_by_item old) due.1
due_next mode old (dues.Item lexed n) going due = item_next mode old going due.0 ∙ ap (next_by_item old) due.1

pub fatal_next : (mode : Mode) (old : Held) (fault : LexFault) → old.fatal ≡ Some fault → next_of mode old ≡ (Fatal fault, old)
unfolding next_of
fatal_next mode old fault e = ap (λ f. next_by f old (progress mode old.text)) e

-- the next answer, by cases
pub next_cases : (mode : Mode) (old : Held) → old.fatal ≡ None → Continues mode old (next_of mode old) ⊎ (Lacks mode old (next_of mode old) ⊎ Finds mode old (next_of mode old))
next_cases mode old going =
    elim (cases_lt old.told (progress mode old.text).waits) [
      | inl lt ↦ inl (record { due = lt; is = plus_next mode old going lt })
      | inr le ↦ inr (subst (λ (r : Lexed × Held). Lacks mode old r ⊎ Finds mode old r) (sym (item_next mode old going le)) (by_item mode old (progress mode old.text).item refl le))
    ]

-- the same from the two parts of an answer
abbrev pub Next : Mode → Held → Lexed → Held → Type 0
Next mode old lexed new = (lexed ≡ (next_of mode old).0) × (new ≡ (next_of mode old).1)

pub plus_cases : (mode : Mode) (old new : Held) → old.fatal ≡ None → Next mode old Plus new → (old.told < (progress mode old.text).waits) × (new ≡ record { text = old.text; told = old.told + 1; fatal = None })
plus_cases mode old new going n =
    elim (next_cases mode old going) [
      | inl c ↦ (c.due, n.1 ∙ ap (λ r. r.1) c.is)
      | inr other ↦ absurd (elim other [
        | inl l ↦ (let f : Plus ≡ More = n.0 ∙ ap (λ r. r.0) l.is in cc)
        | inr x ↦ (let f : Plus ≡ x.item.0 = n.0 ∙ ap (λ r. r.0) x.is in subst IsItem (sym f) (takes_octets mode old.text x.item x.some).0)
      ])
    ]

pub more_cases : (mode : Mode) (old new : Held) → old.fatal ≡ None → Next mode old More new → ((progress mode old.text).item ≡ None) × (new ≡ old) × ((progress mode old.text).waits ≤ old.told)
more_cases mode old new going n =
    elim (next_cases mode old going) [
      | inl c ↦ absurd (let f : More ≡ Plus = n.0 ∙ ap (λ r. r.0) c.is in cc)
      | inr other ↦ elim other [
        | inl l ↦ (l.none, n.1 ∙ ap (λ r. r.1) l.is, l.told)
        | inr x ↦ absurd (let f : More ≡ x.item.0 = n.0 ∙ ap (λ r. r.0) x.is in subst IsItem (sym f) (takes_octets mode old.text x.item x.some).0)
      ]
    ]

-- what is known of an item that was answered
pub record Took (mode : Mode) (old : Held) (lexed : Lexed) (new : Held) : Type 0 where
  pub octets : ℕ
  pub told : (progress mode old.text).waits ≤ old.told
  pub some : (progress mode old.text).item ≡ Some (lexed, octets)
  pub is : new ≡ held_behind (lexed, octets) old.text

pub item_cases : (mode : Mode) (old new : Held) (lexed : Lexed) → old.fatal ≡ None → (lexed ≡ Plus → ⊥) → (lexed ≡ More → ⊥) → Next mode old lexed new → Took mode old lexed new
item_cases mode old new lexed going not_plus not_more n =
    elim (next_cases mode old going) [
      | inl c ↦ absurd (not_plus (n.0 ∙ ap (λ r. r.0) c.is))
      | inr other ↦ elim other [
        | inl l ↦ absurd (not_more (n.0 ∙ ap (λ r. r.0) l.is))
        | inr x ↦ (
            let same : x.item.0 ≡ lexed = sym (n.0 ∙ ap (λ r. r.0) x.is) in
            let item : ◌≡◌ {A = Lexed × ℕ} x.item (lexed, x.item.1) = ap (λ (l : Lexed). let p : Lexed × ℕ = (l, x.item.1) in p) same in
            record {
              octets = x.item.1;
              told = x.told;
              some = x.some ∙ ap (λ (p : Lexed × ℕ). Some p) item;
              is = n.1 ∙ ap (λ r. r.1) x.is ∙ ap (λ (p : Lexed × ℕ). held_behind p old.text) item;
            })
      ]
    ]

-- ---- what is owed

abbrev items_of : Mode → List Mode → List ℕ → List Lexed
items_of mode modes text = answers_by_item (answers_from modes) (record { text = text; told = 0; fatal = None }) (progress mode text).item

one_mode : (mode : Mode) (modes : List Mode) (text : List ℕ) (told : ℕ) → answers_from (mode ∷ modes) (record { text = text; told = told; fatal = None }) ≡ replicate ((progress mode text).waits - told) Plus ++ items_of mode modes text
unfolding answers_from
one_mode mode modes text told = ap (λ (xs : List Lexed). replicate ((progress mode text).waits - told) Plus ++ xs) (by_option (progress mode text).item)
  where
    by_option : (o : Option (Lexed × ℕ)) → answers_by_item (answers_from modes) (record { text = text; told = told; fatal = None }) o ≡ answers_by_item (answers_from modes) (record { text = text; told = 0; fatal = None }) o
    by_option None = refl
    by_option (Some x) = refl

one_plus : (m n : ℕ) → n < m → replicate (m - n) Plus ≡ Plus ∷ replicate (m - (n + 1)) Plus
one_plus m n lt = let k : m - n ≡ suc (m - (n + 1)) = omega arith in ap (λ c. replicate c Plus) k

pub owes_plus : (mode : Mode) (modes : List Mode) (old new : Held) (said : List Lexed) → old.fatal ≡ None → Next mode old Plus new → Owes (mode ∷ modes) old said (mode ∷ modes) new (said ++ Plus ∷ [])
owes_plus mode modes old new said going n more =
    let p = plus_cases mode old new going n in
    let text = old.text ++ more in
    let due : old.told < (progress mode text).waits = omega (arith, p.0, keeps_waits mode old.text more) in
    let before : with_more old more ≡ record { text = text; told = old.told; fatal = None } = ap (λ f. let h : Held = record { text = text; told = old.told; fatal = f } in h) going in
    let after : with_more new more ≡ record { text = text; told = old.told + 1; fatal = None } = ap (λ h. with_more h more) p.1 in
    ap (λ h. said ++ answers_from (mode ∷ modes) h) before
    ∙ ap (λ (xs : List Lexed). said ++ xs) (one_mode mode modes text old.told ∙ ap (λ (xs : List Lexed). xs ++ items_of mode modes text) (one_plus (progress mode text).waits old.told due))
    ∙ sym (append_assoc said (Plus ∷ []) (replicate ((progress mode text).waits - (old.told + 1)) Plus ++ items_of mode modes text))
    ∙ ap (λ (xs : List Lexed). (said ++ Plus ∷ []) ++ xs) (sym (one_mode mode modes text (old.told + 1)))
    ∙ ap (λ h. (said ++ Plus ∷ []) ++ answers_from (mode ∷ modes) h) (sym after)

pub owes_item : (mode : Mode) (modes : List Mode) (old new : Held) (lexed : Lexed) (said : List Lexed) → old.fatal ≡ None → Took mode old lexed new → Owes (mode ∷ modes) old said modes new (said ++ lexed ∷ [])
owes_item mode modes old new lexed said going t more =
    let text = old.text ++ more in
    let keeps = keeps_items mode old.text more (lexed, t.octets) t.some in
    let takes = takes_octets mode old.text (lexed, t.octets) t.some in
    let before : with_more old more ≡ record { text = text; told = old.told; fatal = None } = ap (λ f. let h : Held = record { text = text; told = old.told; fatal = f } in h) going in
    let none : (progress mode text).waits - old.told ≡ 0 = omega (arith, keeps.1, t.told) in
    let behind : held_behind (lexed, t.octets) text ≡ with_more new more = ap (λ (ts : List ℕ). let h : Held = record { text = ts; told = 0; fatal = fatal_of lexed } in h) (drop-append-le t.octets old.text more takes.2) ∙ ap (λ h. with_more h more) (sym t.is) in
    ap (λ h. said ++ answers_from (mode ∷ modes) h) before
    ∙ ap (λ (xs : List Lexed). said ++ xs) (one_mode mode modes text old.told ∙ ap (λ c. replicate c Plus ++ items_of mode modes text) none ∙ ap (λ (o : Option (Lexed × ℕ)). answers_by_item (answers_from modes) (record { text = text; told = 0; fatal = None }) o) keeps.0)
    ∙ ap (λ h. said ++ (lexed ∷ answers_from modes h)) behind
    ∙ sym (append_assoc said (lexed ∷ []) (answers_from modes (with_more new more)))

-- after a fatal fault nothing is answered
pub none_behind : (modes : List Mode) (h : Held) (fault : LexFault) → h.fatal ≡ Some fault → answers_from modes h ≡ answers_from [] h
unfolding answers_from
none_behind [] h fault e = refl
none_behind (mode ∷ modes) h fault e = rw e refl

-- nothing is owed where all was told
pub none_owed : (mode : Mode) (modes : List Mode) (h : Held) → h.fatal ≡ None → (progress mode h.text).waits ≤ h.told → (progress mode h.text).item ≡ None → answers_from (mode ∷ modes) h ≡ []
none_owed mode modes h going told none =
    let k : (progress mode h.text).waits - h.told ≡ 0 = omega arith in
    ap (λ f. answers_from (mode ∷ modes) (let g : Held = record { text = h.text; told = h.told; fatal = f } in g)) going
    ∙ one_mode mode modes h.text h.told
    ∙ ap (λ c. replicate c Plus ++ items_of mode modes h.text) k
    ∙ ap (λ (o : Option (Lexed × ℕ)). answers_by_item (answers_from modes) (record { text = h.text; told = 0; fatal = None }) o) none

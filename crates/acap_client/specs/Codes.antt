-- How what a client holds is told apart: a code of each type that it is made of.
use Rattle.std.specs.Prelude.{◌≡◌, ◌⊎◌, ℕ, Bool, true, false, List, [], ◌∷◌, ◌++◌, Option, Some, None, refl}
use Rattle.std.specs.Coded.{Coded, code_by, coded×, coded⊎, coded_list, coded_bool, coded_option, coded_ℕ}
use Rattle.std.specs.FinMap as finite
use Rattle.std.proofs.Common.{inl, inr, ap, ◌∙◌}
use Rattle.acap_grammar.specs.Lines.{Datum, Word, Text, Empty, Pair}
use Rattle.acap_grammar.specs.Printed.{PrintedRow, PrintedMap}
use Rattle.acap_commands.specs.declared.search_modifiers.MakeContext.{MakeContext}
use Rattle.acap_client.specs.Following.{Held, Listed, Mapped, Kept, Asked, Making, Freeing, Follower}

abbrev octets : Coded (List ℕ)
octets = coded_list coded_ℕ

-- ---- a datum, as the list of its marks: a word, a string, an empty list, or a pair before its two parts

abbrev Mark : Type 0
Mark = Bool × Option (List ℕ)

abbrev marks : Datum → List Mark
marks (Word word) = (true, Some word) ∷ []
marks (Text text) = (false, Some text) ∷ []
marks Empty = (true, None) ∷ []
marks (Pair first others) = (false, None) ∷ (marks first ++ marks others)

abbrev paired : List Datum → List Datum
paired [] = []
paired (first ∷ []) = first ∷ []
paired (first ∷ second ∷ others) = Pair first second ∷ others

abbrev read : Mark → List Datum → List Datum
read (true, Some word) ds = Word word ∷ ds
read (false, Some text) ds = Text text ∷ ds
read (true, None) ds = Empty ∷ ds
read (false, None) ds = paired ds

abbrev read_all : List Mark → List Datum → List Datum
read_all [] ds = ds
read_all (mark ∷ others) ds = read mark (read_all others ds)

abbrev first_of : List Datum → Datum
first_of [] = Empty
first_of (d ∷ ds) = d

read_append : (ms ns : List Mark) (ds : List Datum) → read_all (ms ++ ns) ds ≡ read_all ms (read_all ns ds)
read_append [] ns ds = refl
read_append (m ∷ ms) ns ds = ap (read m) (read_append ms ns ds)

read_back : (d : Datum) (ds : List Datum) → read_all (marks d) ds ≡ d ∷ ds
read_back (Word word) ds = refl
read_back (Text text) ds = refl
read_back Empty ds = refl
read_back (Pair first others) ds =
    ap paired (read_append (marks first) (marks others) ds
    ∙ ap (read_all (marks first)) (read_back others ds)
    ∙ read_back first (others ∷ ds))

pub datum_back : (d : Datum) → first_of (read_all (marks d) []) ≡ d
datum_back d = ap first_of (read_back d [])

abbrev pub datum_code : Coded Datum
datum_code =
    code_by (List Mark) (coded_list (coded× coded_bool (coded_option octets)))
    marks (λ ms. first_of (read_all ms [])) datum_back

-- ---- rows

abbrev pub row_code : Coded PrintedRow
row_code =
    code_by (List ℕ × List Datum) (coded× octets (coded_list datum_code))
    (λ row. (row.name, row.items)) (λ p. record { name = p.0; items = p.1 }) (λ _. refl)

-- ---- what is held of a context

abbrev held_parts : Held → List PrintedRow ⊎ PrintedMap
held_parts (Listed rows) = inl rows
held_parts (Mapped rows) = inr rows

abbrev held_of : List PrintedRow ⊎ PrintedMap → Held
held_of (inl rows) = Listed rows
held_of (inr rows) = Mapped rows

pub held_back : (held : Held) → held_of (held_parts held) ≡ held
held_back (Listed rows) = refl
held_back (Mapped rows) = refl

abbrev pub held_code : Coded Held
held_code =
    code_by (List PrintedRow ⊎ PrintedMap) (coded⊎ (coded_list row_code) (finite.code octets row_code))
    held_parts held_of held_back

abbrev pub kept_code : Coded Kept
kept_code =
    code_by (Held × (Bool × Bool)) (coded× held_code (coded× coded_bool coded_bool))
    (λ kept. (kept.held, (kept.complete, kept.freed)))
    (λ p. record { held = p.0; complete = p.1.0; freed = p.1.1 }) (λ _. refl)

-- ---- a command that waits

abbrev make_code : Coded MakeContext
make_code =
    code_by (Bool × (Bool × List ℕ)) (coded× coded_bool (coded× coded_bool octets))
    (λ make. (make.enumerate, (make.notify, make.name)))
    (λ p. record { enumerate = p.0; notify = p.1.0; name = p.1.1 }) (λ _. refl)

abbrev asked_parts : Asked → (MakeContext × List PrintedRow) ⊎ List ℕ
asked_parts (Making make rows) = inl (make, rows)
asked_parts (Freeing context) = inr context

abbrev asked_of : (MakeContext × List PrintedRow) ⊎ List ℕ → Asked
asked_of (inl p) = Making p.0 p.1
asked_of (inr context) = Freeing context

pub asked_back : (asked : Asked) → asked_of (asked_parts asked) ≡ asked
asked_back (Making make rows) = refl
asked_back (Freeing context) = refl

abbrev pub asked_code : Coded Asked
asked_code =
    code_by ((MakeContext × List PrintedRow) ⊎ List ℕ)
    (coded⊎ (coded× make_code (coded_list row_code)) octets)
    asked_parts asked_of asked_back

-- ---- a follower

abbrev pub follower_code : Coded Follower
follower_code =
    code_by (List (List ℕ × Kept) × List (List ℕ × Asked))
    (coded× (coded_list (coded× octets kept_code)) (coded_list (coded× octets asked_code)))
    (λ f. (f.contexts, f.asked)) (λ p. record { contexts = p.0; asked = p.1 }) (λ _. refl)

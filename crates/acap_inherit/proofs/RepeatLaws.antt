-- A dataset that comes again in a chain changes nothing.
use Rattle.std.proofs.Common.{◌≡◌, ℕ, ℤ, Bool, true, false, cond, ◌==◌, ◌||◌, List, [], ◌∷◌, ◌++◌, length, take, map, Option, Some, None, refl, sym, ap, ◌∙◌}
use Rattle.std.specs.Prelude.{codes, is_some, if◌then◌else◌}
use Rattle.std.specs.List.{list_any, cons_option}
use Rattle.std.proofs.lemmas.List.Folds.{list_any-append}
use Rattle.acap_entries.specs.Orders.{octets_eq}
use Rattle.acap_entries.specs.Store.{Stored}
use Rattle.acap_entries.specs.declared.record.Cell.{Cell}
use Rattle.acap_entries.specs.declared.record.Record.{Record}
use Rattle.acap_inherit.specs.Records.{record_at, cell_in, ends_inheritance}
use Rattle.acap_inherit.specs.Resolving.{Resolution, by_cell, by_record, by_presence, value_on, entry_on, records_along, until_end, greatest, modtime_on, stamp_value, members_for, members_of, lookup, entry_exists, modtime_of}
use Rattle.acap_inherit.specs.Laws.{RepeatLaw}
use Rattle.acap_inherit.proofs.NamesLaws.{same_names_on}
use Rattle.acap_inherit.proofs.Moments.{either, either_swap, either_twice}

-- ---- steps that pass on what comes from beyond, or answer by themselves

-- what is beyond doesn't matter, or passes through
abbrev PassesOrAnswers : {X : Type 0} → (X → X) → Type 0
PassesOrAnswers {X} step = (beyond : X → X) (end : X) → step (beyond (step end)) ≡ step (beyond end)

abbrev walked : {X : Type 0} → (List ℕ → X → X) → List (List ℕ) → X → X
walked step [] end = end
walked step (dataset ∷ chain) end = step dataset (walked step chain end)

-- a dataset that was there already adds nothing
abbrev Absorbs : {X : Type 0} → (List ℕ → X → X) → List ℕ → Type 0
Absorbs {X} step dataset = (between : List (List ℕ)) (end : X) → step dataset (walked step between (step dataset end)) ≡ step dataset (walked step between end)

walked_append : {X : Type 0} (step : List ℕ → X → X) (front rest : List (List ℕ)) (end : X) → walked step (front ++ rest) end ≡ walked step front (walked step rest end)
walked_append step [] rest end = refl
walked_append step (dataset ∷ front) rest end = ap (step dataset) (walked_append step front rest end)

walked_twice : {X : Type 0} (step : List ℕ → X → X) (front between rest : List (List ℕ)) (dataset : List ℕ) (end : X) → Absorbs step dataset → walked step (front ++ dataset ∷ (between ++ dataset ∷ rest)) end ≡ walked step (front ++ dataset ∷ (between ++ rest)) end
walked_twice step front between rest dataset end h =
    walked_append step front (dataset ∷ (between ++ dataset ∷ rest)) end
    ∙ (ap (walked step front)
    (ap (step dataset) (walked_append step between (dataset ∷ rest) end)
    ∙ (h between (walked step rest end)
    ∙ ap (step dataset) (sym (walked_append step between rest end))))
    ∙ sym (walked_append step front (dataset ∷ (between ++ rest)) end))

again : (a b c : Bool) → (a || (b || (a || c))) ≡ (a || (b || c))
again true b c = refl
again false b c = refl

-- ---- values and existence

cell_step : (cell : Option Cell) (entry : Record) (dataset : List ℕ) → PassesOrAnswers (by_cell cell entry dataset)
cell_step (Some cell) entry dataset beyond end = refl
cell_step None entry dataset beyond end =
    elim (ends_inheritance entry) as (λ b. cond b None (beyond (cond b None end)) ≡ cond b None (beyond end)) [ true ↦ refl | false ↦ refl ]

record_step : (entry : Option Record) (attribute dataset : List ℕ) → PassesOrAnswers (by_record entry attribute dataset)
record_step None attribute dataset beyond end = refl
record_step (Some entry) attribute dataset beyond end = cell_step (cell_in entry attribute) entry dataset beyond end

presence_step : (entry : Option Record) (name dataset : List ℕ) → PassesOrAnswers (by_presence entry name dataset)
presence_step None name dataset beyond end = refl
presence_step (Some entry) name dataset beyond end = refl

abbrev value_step : Stored → List ℕ → List ℕ → List ℕ → Resolution → Resolution
value_step records name attribute dataset beyond = by_record (record_at records dataset name) attribute dataset beyond

abbrev entry_step : Stored → List ℕ → List ℕ → Resolution → Resolution
entry_step records name dataset beyond = by_presence (record_at records dataset name) name dataset beyond

value_walked : (records : Stored) (chain : List (List ℕ)) (name attribute : List ℕ) → value_on records chain name attribute ≡ walked (value_step records name attribute) chain None
value_walked records [] name attribute = refl
value_walked records (dataset ∷ chain) name attribute = ap (value_step records name attribute dataset) (value_walked records chain name attribute)

entry_walked : (records : Stored) (chain : List (List ℕ)) (name : List ℕ) → entry_on records chain name ≡ walked (entry_step records name) chain None
entry_walked records [] name = refl
entry_walked records (dataset ∷ chain) name = ap (entry_step records name dataset) (entry_walked records chain name)

pub value_twice : (records : Stored) (front between rest : List (List ℕ)) (dataset name attribute : List ℕ) → value_on records (front ++ dataset ∷ (between ++ dataset ∷ rest)) name attribute ≡ value_on records (front ++ dataset ∷ (between ++ rest)) name attribute
value_twice records front between rest dataset name attribute =
    value_walked records (front ++ dataset ∷ (between ++ dataset ∷ rest)) name attribute
    ∙ (walked_twice (value_step records name attribute) front between rest dataset None (λ between. record_step (record_at records dataset name) attribute dataset (walked (value_step records name attribute) between))
    ∙ sym (value_walked records (front ++ dataset ∷ (between ++ rest)) name attribute))

pub entry_twice : (records : Stored) (front between rest : List (List ℕ)) (dataset name : List ℕ) → entry_on records (front ++ dataset ∷ (between ++ dataset ∷ rest)) name ≡ entry_on records (front ++ dataset ∷ (between ++ rest)) name
entry_twice records front between rest dataset name =
    entry_walked records (front ++ dataset ∷ (between ++ dataset ∷ rest)) name
    ∙ (walked_twice (entry_step records name) front between rest dataset None (λ between. presence_step (record_at records dataset name) name dataset (walked (entry_step records name) between))
    ∙ sym (entry_walked records (front ++ dataset ∷ (between ++ rest)) name))

-- ---- moments

-- the moments of records from one on
abbrev moment_past : Option Record → Option ℤ → Option ℤ
moment_past None beyond = beyond
moment_past (Some entry) beyond = if ends_inheritance entry then Some entry.modtime else either (Some entry.modtime) beyond

abbrev pub moment_step : Stored → List ℕ → List ℕ → Option ℤ → Option ℤ
moment_step records name dataset beyond = moment_past (record_at records dataset name) beyond

abbrev latest_of : List Record → Option ℤ
latest_of entries = greatest (map (λ (entry : Record). entry.modtime) (until_end entries))

latest_past : (entry : Option Record) (entries : List Record) (beyond : Option ℤ) → latest_of entries ≡ beyond → latest_of (cons_option entry entries) ≡ moment_past entry beyond
latest_past None entries beyond e = e
latest_past (Some entry) entries beyond e =
    elim (ends_inheritance entry) as (λ b. greatest (entry.modtime ∷ map (λ (r : Record). r.modtime) (if b then [] else until_end entries)) ≡ (if b then Some entry.modtime else either (Some entry.modtime) beyond)) [
      | true ↦ refl
      | false ↦ ap (either (Some entry.modtime)) e
    ]

modtime_walked : (records : Stored) (chain : List (List ℕ)) (name : List ℕ) → modtime_on records chain name ≡ walked (moment_step records name) chain None
modtime_walked records [] name = refl
modtime_walked records (dataset ∷ chain) name =
    latest_past (record_at records dataset name) (records_along records chain name) (walked (moment_step records name) chain None) (modtime_walked records chain name)

either_past : (m : ℤ) (entry : Option Record) (a b : Option ℤ) → either (Some m) a ≡ either (Some m) b → either (Some m) (moment_past entry a) ≡ either (Some m) (moment_past entry b)
either_past m None a b e = e
either_past m (Some entry) a b e =
    elim (ends_inheritance entry) as (λ t. either (Some m) (if t then Some entry.modtime else either (Some entry.modtime) a) ≡ either (Some m) (if t then Some entry.modtime else either (Some entry.modtime) b)) [
      | true ↦ refl
      | false ↦ either_swap m entry.modtime a ∙ (ap (either (Some entry.modtime)) e ∙ sym (either_swap m entry.modtime b))
    ]

either_walked : (records : Stored) (name : List ℕ) (m : ℤ) (between : List (List ℕ)) (a b : Option ℤ) → either (Some m) a ≡ either (Some m) b → either (Some m) (walked (moment_step records name) between a) ≡ either (Some m) (walked (moment_step records name) between b)
either_walked records name m [] a b e = e
either_walked records name m (dataset ∷ between) a b e =
    either_past m (record_at records dataset name) _ _ (either_walked records name m between a b e)

moment_absorbs : (records : Stored) (name : List ℕ) (entry : Option Record) (between : List (List ℕ)) (end : Option ℤ) → moment_past entry (walked (moment_step records name) between (moment_past entry end)) ≡ moment_past entry (walked (moment_step records name) between end)
moment_absorbs records name None between end = refl
moment_absorbs records name (Some entry) between end =
    elim (ends_inheritance entry) as (λ t. (if t then Some entry.modtime else either (Some entry.modtime) (walked (moment_step records name) between (if t then Some entry.modtime else either (Some entry.modtime) end))) ≡ (if t then Some entry.modtime else either (Some entry.modtime) (walked (moment_step records name) between end))) [
      | true ↦ refl
      | false ↦ either_walked records name entry.modtime between (either (Some entry.modtime) end) end (either_twice entry.modtime end)
    ]

modtime_twice : (records : Stored) (front between rest : List (List ℕ)) (dataset name : List ℕ) → modtime_on records (front ++ dataset ∷ (between ++ dataset ∷ rest)) name ≡ modtime_on records (front ++ dataset ∷ (between ++ rest)) name
modtime_twice records front between rest dataset name =
    modtime_walked records (front ++ dataset ∷ (between ++ dataset ∷ rest)) name
    ∙ (walked_twice (moment_step records name) front between rest dataset None (moment_absorbs records name (record_at records dataset name))
    ∙ sym (modtime_walked records (front ++ dataset ∷ (between ++ rest)) name))

-- ---- the part of the chain that counts

take_one : (front : List (List ℕ)) (dataset : List ℕ) (a b : List (List ℕ)) → take 1 (front ++ dataset ∷ a) ≡ take 1 (front ++ dataset ∷ b)
take_one [] dataset a b = refl
take_one (first ∷ front) dataset a b = refl

stamped_one : (front : List (List ℕ)) (dataset : List ℕ) (a b : List (List ℕ)) (moment : Option ℤ) → stamp_value (front ++ dataset ∷ a) moment ≡ stamp_value (front ++ dataset ∷ b) moment
stamped_one front dataset a b None = refl
stamped_one [] dataset a b (Some moment) = refl
stamped_one (first ∷ front) dataset a b (Some moment) = refl

-- what is the same along both chains is the same along what counts of them
counted : {X : Type 0} (f : List (List ℕ) → X) (test : Bool) (front : List (List ℕ)) (dataset : List ℕ) (a b : List (List ℕ)) → f (front ++ dataset ∷ a) ≡ f (front ++ dataset ∷ b) → f (if test then take 1 (front ++ dataset ∷ a) else (front ++ dataset ∷ a)) ≡ f (if test then take 1 (front ++ dataset ∷ b) else (front ++ dataset ∷ b))
counted f true front dataset a b e = ap f (take_one front dataset a b)
counted f false front dataset a b e = e

counted_of : {X : Type 0} (f : List (List ℕ) → X) (name attribute : List ℕ) (front : List (List ℕ)) (dataset : List ℕ) (a b : List (List ℕ)) → f (front ++ dataset ∷ a) ≡ f (front ++ dataset ∷ b) → f (members_of (front ++ dataset ∷ a) name attribute) ≡ f (members_of (front ++ dataset ∷ b) name attribute)
counted_of f name attribute front dataset a b e =
    elim (octets_eq attribute (codes "subdataset")) as (λ t. f (if t then take 1 (front ++ dataset ∷ a) else members_for (front ++ dataset ∷ a) name) ≡ f (if t then take 1 (front ++ dataset ∷ b) else members_for (front ++ dataset ∷ b) name)) [
      | true ↦ ap f (take_one front dataset a b)
      | false ↦ counted f (length name == 0) front dataset a b e
    ]

attribute_twice : (records : Stored) (front between rest : List (List ℕ)) (dataset name attribute : List ℕ) → lookup records (front ++ dataset ∷ (between ++ dataset ∷ rest)) name attribute ≡ lookup records (front ++ dataset ∷ (between ++ rest)) name attribute
unfolding lookup
attribute_twice records front between rest dataset name attribute =
    let a = between ++ dataset ∷ rest in
    let b = between ++ rest in
    let entries = counted (λ c. entry_on records c name) (length name == 0) front dataset a b (entry_twice records front between rest dataset name) in
    let moments = counted (λ c. modtime_on records c name) (length name == 0) front dataset a b (modtime_twice records front between rest dataset name) in
    let stamps = ap (stamp_value (front ++ dataset ∷ a)) moments ∙ stamped_one front dataset a b (modtime_on records (members_for (front ++ dataset ∷ b) name) name) in
    let values = counted_of (λ c. value_on records c name attribute) name attribute front dataset a b (value_twice records front between rest dataset name attribute) in
    λ i. if octets_eq attribute (codes "entry") then entries i else (if octets_eq attribute (codes "modtime") then stamps i else values i)

existence_twice : (records : Stored) (front between rest : List (List ℕ)) (dataset name : List ℕ) → entry_exists records (front ++ dataset ∷ (between ++ dataset ∷ rest)) name ≡ entry_exists records (front ++ dataset ∷ (between ++ rest)) name
unfolding entry_exists
existence_twice records front between rest dataset name =
    counted (λ c. is_some (entry_on records c name)) (length name == 0) front dataset _ _ (ap is_some (entry_twice records front between rest dataset name))

moment_twice : (records : Stored) (front between rest : List (List ℕ)) (dataset name : List ℕ) → modtime_of records (front ++ dataset ∷ (between ++ dataset ∷ rest)) name ≡ modtime_of records (front ++ dataset ∷ (between ++ rest)) name
unfolding modtime_of
moment_twice records front between rest dataset name =
    counted (λ c. modtime_on records c name) (length name == 0) front dataset _ _ (modtime_twice records front between rest dataset name)

-- ---- names

any_twice : {A : Type 0} (p : A → Bool) (front between rest : List A) (x : A) → list_any p (front ++ x ∷ (between ++ x ∷ rest)) ≡ list_any p (front ++ x ∷ (between ++ rest))
any_twice p front between rest x =
    list_any-append p front (x ∷ (between ++ x ∷ rest))
    ∙ (ap (λ b. list_any p front || b)
    (ap (λ b. p x || b) (list_any-append p between (x ∷ rest))
    ∙ (again (p x) (list_any p between) (list_any p rest)
    ∙ ap (λ b. p x || b) (sym (list_any-append p between rest))))
    ∙ sym (list_any-append p front (x ∷ (between ++ rest))))

pub repeat_law : RepeatLaw
repeat_law = record {
  attribute = attribute_twice;
  existence = existence_twice;
  moment = moment_twice;
  names = λ records front between rest dataset. same_names_on records records _ _ (λ name. any_twice (λ d. is_some (record_at records d name)) front between rest dataset);
}

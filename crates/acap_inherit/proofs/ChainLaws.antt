-- Laws of chains.
use Rattle.std.proofs.Common.{◌≡◌, ℕ, suc, zero, ◌+◌, ◌<◌, ◌≤◌, true, false, List, [], ◌∷◌, length, take, Option, Some, None, arith, refl, ap, ◌∙◌}
use Rattle.std.specs.Prelude.{slice_get, codes, if◌then◌else◌}
use Rattle.std.specs.Option.{option_and_then}
use Rattle.acap_entries.specs.Store.{Stored}
use Rattle.acap_entries.specs.declared.record.Cell.{Cell}
use Rattle.acap_entries.specs.declared.record.Cell.TheVariants.{Nil, Single, Multi}
use Rattle.acap_entries.specs.declared.record.Record.{Record}
use Rattle.acap_inherit.specs.Chains.{name_in, base_at, onward, chain_within, chain_of}
use Rattle.acap_inherit.specs.Records.{record_at, cell_in, ends_inheritance}
use Rattle.acap_inherit.specs.Resolving.{by_cell, by_record, lookup}
use Rattle.acap_inherit.specs.Laws.{ChainLaw, BaseLaw}

-- ---- one name after the other

few : (most : ℕ) (records : Stored) (dataset : List ℕ) → length (chain_within most records dataset) ≤ most
unfolding chain_within
few zero records dataset = omega arith
few (suc most) records dataset =
    elim (base_at records dataset) as (λ base. length (dataset ∷ onward base (chain_within most records)) ≤ suc most) [
      | None ↦ omega arith
      | Some base ↦ let h = few most records base in omega arith
    ]

-- where there is room for another name, a member's base is what comes after it
next : (most : ℕ) (records : Stored) (dataset : List ℕ) (i : ℕ) (member : List ℕ) → suc i < most → slice_get (chain_within most records dataset) i ≡ Some member → base_at records member ≡ slice_get (chain_within most records dataset) (suc i)
unfolding chain_within
next zero records dataset i member h e = absurd (omega arith)
next (suc zero) records dataset i member h e = absurd (omega arith)
next (suc (suc most)) records dataset zero member h e =
    let same : member ≡ dataset = cc in
    ap (base_at records) same
    ∙ elim (base_at records dataset) as (λ base. base ≡ slice_get (onward base (chain_within (suc most) records)) zero) [ None ↦ refl | Some base ↦ refl ]
next (suc (suc most)) records dataset (suc i) member h e =
    elim (base_at records dataset) as (λ base. slice_get (onward base (chain_within (suc most) records)) i ≡ Some member → base_at records member ≡ slice_get (onward base (chain_within (suc most) records)) (suc i)) [
      | None ↦ λ e. cc
      | Some base ↦ λ e. next (suc most) records base i member (omega arith) e
    ] e

next_of : (records : Stored) (dataset : List ℕ) (i : ℕ) (member : List ℕ) → i < 7 → slice_get (chain_within 8 records dataset) i ≡ Some member → base_at records member ≡ slice_get (chain_within 8 records dataset) (i + 1)
next_of records dataset i member h e =
    let one : suc i ≡ i + 1 = omega arith in
    next 8 records dataset i member (omega arith) e ∙ ap (slice_get (chain_within 8 records dataset)) one

first : (records : Stored) (dataset : List ℕ) → slice_get (chain_within 8 records dataset) 0 ≡ Some dataset
unfolding chain_within
first records dataset = refl

alone : (records : Stored) (dataset : List ℕ) → dataset ∷ [] ≡ take 1 (chain_within 8 records dataset)
unfolding chain_within
alone records dataset = refl

pub chain_law : ChainLaw
chain_law = record {
  first = λ records dataset no_inherit. elim no_inherit as (λ b. slice_get (chain_of records dataset b) 0 ≡ Some dataset) [ true ↦ refl | false ↦ first records dataset ];
  few = λ records dataset no_inherit. elim no_inherit as (λ b. length (chain_of records dataset b) ≤ 8) [ true ↦ omega arith | false ↦ few 8 records dataset ];
  next = next_of;
  alone = alone;
}

-- ---- what a base is

cell_named : (cell : Option Cell) (entry : Record) (dataset : List ℕ) → option_and_then name_in cell ≡ option_and_then (λ found. name_in found.0) (by_cell cell entry dataset None)
cell_named None entry dataset = elim (ends_inheritance entry) as (λ b. None ≡ option_and_then (λ found. name_in found.0) (if b then None else None)) [ true ↦ refl | false ↦ refl ]
cell_named (Some Nil) entry dataset = refl
cell_named (Some (Single name)) entry dataset = refl
cell_named (Some (Multi names)) entry dataset = refl

pub base_law : BaseLaw
unfolding lookup
base_law records dataset =
    elim (record_at records dataset []) as (λ (entry : Option Record). option_and_then name_in (option_and_then (λ r. cell_in r (codes "dataset.inherit")) entry) ≡ option_and_then (λ found. name_in found.0) (by_record entry (codes "dataset.inherit") dataset None)) [
      | None ↦ refl
      | Some entry ↦ cell_named (cell_in entry (codes "dataset.inherit")) entry dataset
    ]

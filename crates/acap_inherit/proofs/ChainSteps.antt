-- A chain, one dataset after the other.
use Rattle.std.proofs.Common.{◌≡◌, ℕ, ◌+◌, ◌-◌, ◌<◌, ◌≤◌, List, [], ◌∷◌, ◌++◌, Some, None, arith, sym, ◌∙◌, ap, append_assoc, append-nil}
use Rattle.acap_entries.specs.Store.{Stored}
use Rattle.acap_ordmap.proofs.Logic.{one_fewer}
use Rattle.acap_inherit.specs.Chains.{chain_within, onward, base_at}

-- with some names left, a chain is the dataset and what follows it
chain_step : (n i : ℕ) (records : Stored) (dataset : List ℕ) → i < n → chain_within (n - i) records dataset ≡ dataset ∷ onward (base_at records dataset) (chain_within (n - (i + 1)) records)
unfolding chain_within
chain_step n i records dataset h = ap (λ k. chain_within k records dataset) (one_fewer n i h)

chain_none : (n i : ℕ) (records : Stored) (dataset : List ℕ) → n ≤ i → chain_within (n - i) records dataset ≡ []
unfolding chain_within
chain_none n i records dataset h =
    let none : n - i ≡ 0 = omega arith in ap (λ k. chain_within k records dataset) none

-- one more name, and what follows it
pub goes_on : (n i : ℕ) (records : Stored) (front all : List (List ℕ)) (dataset base : List ℕ) → i < n → base_at records dataset ≡ Some base → front ++ chain_within (n - i) records dataset ≡ all → (front ++ dataset ∷ []) ++ chain_within (n - (i + 1)) records base ≡ all
goes_on n i records front all dataset base h b e =
    let rest = chain_within (n - (i + 1)) records in
    append_assoc front (dataset ∷ []) (rest base)
    ∙ (ap (λ o. front ++ (dataset ∷ onward o rest)) (sym b) ∙ (ap (λ r. front ++ r) (sym (chain_step n i records dataset h)) ∙ e))

-- the last name
pub ends : (n i : ℕ) (records : Stored) (front all : List (List ℕ)) (dataset : List ℕ) → i < n → base_at records dataset ≡ None → front ++ chain_within (n - i) records dataset ≡ all → front ++ dataset ∷ [] ≡ all
ends n i records front all dataset h b e =
    let rest = chain_within (n - (i + 1)) records in
    ap (λ o. front ++ (dataset ∷ onward o rest)) (sym b) ∙ (ap (λ r. front ++ r) (sym (chain_step n i records dataset h)) ∙ e)

-- no name is left
pub full : (n i : ℕ) (records : Stored) (front all : List (List ℕ)) (dataset : List ℕ) → n ≤ i → front ++ chain_within (n - i) records dataset ≡ all → front ≡ all
full n i records front all dataset h e =
    sym (append-nil front) ∙ (ap (λ r. front ++ r) (sym (chain_none n i records dataset h)) ∙ e)

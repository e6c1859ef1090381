-- What is read of a path that is not touched.
use Rattle.std.proofs.Common.{◌≡◌, ◌⊎◌, inl, inr, ℕ, zero, suc, Bool, true, false, ◌&&◌, ◌||◌, List, [], ◌∷◌, take, Some, None, arith, refl, sym, ap, subst, ◌∙◌}
use Rattle.std.specs.Prelude.{is_some}
use Rattle.std.specs.List.{list_any, Contains}
use Rattle.std.specs.FinMap as map
use Rattle.std.proofs.lemmas.Bool.{or_parts}
use Rattle.acap_entries.specs.Datasets.{dataset_exists}
use Rattle.acap_entries.specs.Sound.{IsHoused}
use Rattle.acap_entries.specs.Store.{Stored, Written, IsPathByPath}
use Rattle.acap_entries.specs.declared.path.Path.{Path}
use Rattle.acap_ordmap.proofs.Logic.{false_back, None_from_is_some, Contains-here, Contains-there}
use Rattle.acap_inherit.specs.Chains.{base_at, onward, chain_within, chain_of}
use Rattle.acap_inherit.specs.Laws.{AgreeOn}
use Rattle.acap_inherit.specs.Records.{record_at}
use Rattle.acap_inherit.specs.Resolving.{lookup, entry_exists, modtime_of}
use Rattle.acap_inherit.specs.Touched.{is_written, is_written_on, has_record_on, is_reached, is_touched}
use Rattle.acap_inherit.specs.TouchedLaws.{IsStep, IsReadAlike, IsNowhere, IsAnsweredAlike, UnreadLaw}
use Rattle.acap_inherit.proofs.ReadingLaws.{nothing_law, reading_law, of_members_for, of_members}
use Rattle.acap_inherit.proofs.WrittenLemmas.{unchanged}

-- ---- tests that fail

pub none_of : (p : List ℕ → Bool) (xs : List (List ℕ)) → list_any p xs ≡ false → (d : List ℕ) → Contains xs d → p d ≡ false
none_of p [] e d (k, lt, s) = absurd (omega (arith, lt))
none_of p (x ∷ xs) e d (zero, lt, s) = subst (λ y. p y ≡ false) s (or_parts _ _ e).0
none_of p (x ∷ xs) e d (suc k, lt, s) = none_of p xs (or_parts _ _ e).1 d (k, omega (arith, lt), s)

no_one : (p : List ℕ → Bool) (xs : List (List ℕ)) → ((d : List ℕ) → Contains xs d → p d ≡ false) → list_any p xs ≡ false
no_one p [] h = refl
no_one p (x ∷ xs) h = ap (λ b. b || list_any p xs) (h x (Contains-here x xs)) ∙ no_one p xs (λ d k. h d (Contains-there x d xs k))

of_take : (n : ℕ) (xs : List (List ℕ)) (d : List ℕ) → Contains (take n xs) d → Contains xs d
of_take zero xs d (k, lt, s) = absurd (omega (arith, lt))
of_take (suc n) [] d h = h
of_take (suc n) (x ∷ xs) d (zero, lt, s) = (zero, omega arith, s)
of_take (suc n) (x ∷ xs) d (suc k, lt, s) = Contains-there x d xs (of_take n xs d (k, omega (arith, lt), s))

-- ---- what isn't written stays

pub unwritten : (written : Written) (old new : Stored) → IsPathByPath written old new → (m n : List ℕ) → is_written written old m n ≡ false → record_at old m n ≡ record_at new m n
unwritten written old new h m n e =
    let p : Path = record { dataset = m; name = n } in unchanged (map.get written p) (map.get old p) e ∙ sym (h.at_path p)

pub unwritten_on : (written : Written) (old new : Stored) → IsPathByPath written old new → (chain : List (List ℕ)) (n : List ℕ) → is_written_on written old chain n ≡ false → AgreeOn old new chain n
unwritten_on written old new h chain n e = λ m k. unwritten written old new h m n (none_of (λ m. is_written written old m n) chain e m k)

turned : (old new : Stored) (chain : List (List ℕ)) (n : List ℕ) → AgreeOn old new chain n → AgreeOn new old chain n
turned old new chain n h = λ m k. sym (h m k)

pub same_chain : (old new : Stored) (dataset : List ℕ) → AgreeOn old new (chain_of old dataset false) [] → chain_of old dataset false ≡ chain_of new dataset false
same_chain old new dataset h = reading_law.chain old new dataset false (λ m k. h m (of_take 7 (chain_of old dataset false) m k))

by_old : (written : Written) (old new : Stored) → IsPathByPath written old new → (dataset name : List ℕ) → is_written_on written old (chain_of old dataset false) name ≡ false → is_written_on written old (chain_of old dataset false) [] ≡ false
    → IsReadAlike old new dataset name
by_old written old new h dataset name e f =
    let kept = unwritten_on written old new h (chain_of old dataset false) [] f in
    record { chain = same_chain old new dataset kept; records = unwritten_on written old new h (chain_of old dataset false) name e; management = kept }

by_new : (written : Written) (old new : Stored) → IsPathByPath written old new → (dataset name : List ℕ) → is_written_on written old (chain_of new dataset false) name ≡ false → is_written_on written old (chain_of new dataset false) [] ≡ false
    → IsReadAlike old new dataset name
by_new written old new h dataset name e f =
    let kept = unwritten_on written old new h (chain_of new dataset false) [] f in
    let same = sym (same_chain new old dataset (turned old new _ [] kept)) in
    record {
      chain = same;
      records = subst (λ chain. AgreeOn old new chain name) (sym same) (unwritten_on written old new h (chain_of new dataset false) name e);
      management = subst (λ chain. AgreeOn old new chain []) (sym same) kept;
    }

-- ---- a dataset that doesn't exist

pub empty_there : (records : Stored) → IsHoused records → (dataset : List ℕ) → dataset_exists records dataset ≡ false → (n : List ℕ) → record_at records dataset n ≡ None
empty_there records h dataset e n =
    elim (record_at records dataset n) as (λ found. record_at records dataset n ≡ found → found ≡ None) [
      | None ↦ λ _. refl
      | Some entry ↦ λ is. let exists = h.homes (record { dataset = dataset; name = n }) entry is in cc (exists, e)
    ] refl

pub chain_alone : (records : Stored) (dataset : List ℕ) → record_at records dataset [] ≡ None → chain_of records dataset false ≡ dataset ∷ []
unfolding chain_within
chain_alone records dataset e =
    let none : base_at records dataset ≡ None = rw e refl in ap (λ base. dataset ∷ onward base (chain_within 7 records)) none

pub none_along : (records : Stored) (dataset name : List ℕ) → ((n : List ℕ) → record_at records dataset n ≡ None) → has_record_on records (chain_of records dataset false) name ≡ false
none_along records dataset name h =
    ap (λ chain. has_record_on records chain name) (chain_alone records dataset (h []))
    ∙ ap (λ found. is_some found || false) (h name)

gone : (written : Written) (old new : Stored) → IsStep written old new → (dataset name : List ℕ) → dataset_exists new dataset ≡ false → IsNowhere old new dataset name
gone written old new step dataset name e = record {
  before = none_along old dataset name (empty_there old step.before dataset (false_back _ _ (step.stays dataset) e));
  after = none_along new dataset name (empty_there new step.after dataset e);
}

-- ---- a path that is not touched

by_reach : (written : Written) (old new : Stored) → IsPathByPath written old new → (dataset name : List ℕ) → is_reached written old old (chain_of old dataset false) name ≡ false → is_reached written old new (chain_of new dataset false) name ≡ false
    → IsReadAlike old new dataset name ⊎ IsNowhere old new dataset name
by_reach written old new h dataset name e f =
    let before = or_parts _ _ e in
    let after = or_parts _ _ f in
    elim (is_written_on written old (chain_of old dataset false) []) as (λ b. is_written_on written old (chain_of old dataset false) [] ≡ b → (b && has_record_on old (chain_of old dataset false) name) ≡ false → IsReadAlike old new dataset name ⊎ IsNowhere old new dataset name) [
      | false ↦ λ k _. inl (by_old written old new h dataset name before.0 k)
      | true ↦ λ _ r. elim (is_written_on written old (chain_of new dataset false) []) as (λ b. is_written_on written old (chain_of new dataset false) [] ≡ b → (b && has_record_on new (chain_of new dataset false) name) ≡ false → IsReadAlike old new dataset name ⊎ IsNowhere old new dataset name) [
        | false ↦ λ k _. inl (by_new written old new h dataset name after.0 k)
        | true ↦ λ _ s. inr (record { before = r; after = s })
      ] refl after.1
    ] refl before.1

read_alike : (written : Written) (old new : Stored) → IsStep written old new → (p : Path) → is_touched written old new p ≡ false → IsReadAlike old new p.dataset p.name ⊎ IsNowhere old new p.dataset p.name
unfolding is_touched
read_alike written old new step p e =
    elim (dataset_exists new p.dataset) as (λ b. dataset_exists new p.dataset ≡ b → (b && (is_reached written old old (chain_of old p.dataset false) p.name || is_reached written old new (chain_of new p.dataset false) p.name)) ≡ false → IsReadAlike old new p.dataset p.name ⊎ IsNowhere old new p.dataset p.name) [
      | false ↦ λ is _. inr (gone written old new step p.dataset p.name is)
      | true ↦ λ _ r. let both = or_parts _ _ r in by_reach written old new step.paths p.dataset p.name both.0 both.1
    ] refl e

-- ---- the answers

first_of_chain : (records : Stored) (dataset d : List ℕ) → Contains (dataset ∷ []) d → Contains (chain_of records dataset false) d
unfolding chain_within
first_of_chain records dataset d (zero, lt, s) = (zero, omega arith, s)
first_of_chain records dataset d (suc k, lt, s) = absurd (omega (arith, lt))

pub within_chain : (records : Stored) (dataset : List ℕ) (no_inherit : Bool) (d : List ℕ) → Contains (chain_of records dataset no_inherit) d → Contains (chain_of records dataset false) d
within_chain records dataset true d k = first_of_chain records dataset d k
within_chain records dataset false d k = k

pub same_of : (old new : Stored) (dataset : List ℕ) (no_inherit : Bool) → chain_of old dataset false ≡ chain_of new dataset false → chain_of old dataset no_inherit ≡ chain_of new dataset no_inherit
same_of old new dataset true e = refl
same_of old new dataset false e = e

alike : (old new : Stored) (dataset name : List ℕ) → IsReadAlike old new dataset name → IsAnsweredAlike old new dataset name
alike old new dataset name h =
    let on : (b : Bool) → AgreeOn old new (chain_of old dataset b) name = λ b d k. h.records d (within_chain old dataset b d k) in
    record {
      attribute = λ b a. reading_law.attribute old new (chain_of old dataset b) name a (λ d k. on b d (of_members (chain_of old dataset b) name a d k))
          ∙ ap (λ chain. lookup new chain name a) (same_of old new dataset b h.chain);
      existence = λ b. reading_law.existence old new (chain_of old dataset b) name (λ d k. on b d (of_members_for (chain_of old dataset b) name d k))
          ∙ ap (λ chain. entry_exists new chain name) (same_of old new dataset b h.chain);
      moment = λ b. reading_law.moment old new (chain_of old dataset b) name (λ d k. on b d (of_members_for (chain_of old dataset b) name d k))
          ∙ ap (λ chain. modtime_of new chain name) (same_of old new dataset b h.chain);
    }

pub none_at : (records : Stored) (dataset name : List ℕ) → has_record_on records (chain_of records dataset false) name ≡ false → (b : Bool) (d : List ℕ) → Contains (chain_of records dataset b) d → record_at records d name ≡ None
none_at records dataset name e b d k =
    None_from_is_some _ (none_of (λ m. is_some (record_at records m name)) (chain_of records dataset false) e d (within_chain records dataset b d k))

unseen : (old new : Stored) (dataset name : List ℕ) → IsNowhere old new dataset name → IsAnsweredAlike old new dataset name
unseen old new dataset name h =
    let before = λ (b : Bool). nothing_law.entry old (chain_of old dataset b) name (none_at old dataset name h.before b) in
    let after = λ (b : Bool). nothing_law.entry new (chain_of new dataset b) name (none_at new dataset name h.after b) in
    record {
      attribute = λ b a. (before b).2 a ∙ sym ((after b).2 a);
      existence = λ b. (before b).0 ∙ sym (after b).0;
      moment = λ b. (before b).1 ∙ sym (after b).1;
    }

pub unread_law : UnreadLaw
unread_law = record {
  read = read_alike;
  answers = λ written old new step p e.
      elim (read_alike written old new step p e) as (λ _. IsAnsweredAlike old new p.dataset p.name) [
        | inl h ↦ alike old new p.dataset p.name h
        | inr h ↦ unseen old new p.dataset p.name h
      ];
}

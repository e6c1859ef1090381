-- In which datasets something is touched, asked one by one.
use Rattle.std.proofs.Common.{◌≡◌, ℕ, zero, suc, ◌+◌, ◌<◌, ◌≤◌, length, get_or, Bool, true, false, ◌&&◌, ◌||◌, List, [], ◌∷◌, ◌++◌, map as each, drop, Some, None, refl, sym, ap, ◌∙◌, arith}
use Rattle.std.specs.Borrow.{Bor}
use Rattle.std.specs.Prelude.{slice_get, slice_index_or, filter}
use Rattle.std.specs.FinMap as map
use Rattle.std.specs.List.{list_any, flat_map}
use Rattle.std.specs.Cmp.Lexicographic.{nat_list_cmp_total, same_text, texts_ties}
use Rattle.std.proofs.lemmas.List.{at_drop_more, drop_all}
use Rattle.std.proofs.lemmas.List.Folds.{list_any-append}
use Rattle.std.proofs.Math.Bool.{or-false, and-true}
use Rattle.acap_entries.specs.Changes.{IsStoreAfter}
use Rattle.acap_entries.specs.Datasets.{dataset_exists}
use Rattle.acap_entries.specs.Orders.{octets_cmp, octets_eq}
use Rattle.acap_ordmap.specs.Ranks.{Ascending, rank_of}
use Rattle.acap_entries.specs.Store.{Store, Stored, Written}
use Rattle.acap_entries.specs.declared.change.Change.{Change}
use Rattle.acap_entries.specs.declared.change.RecordEdit.{RecordEdit}
use Rattle.acap_entries.specs.declared.path.Path.{Path}
use Rattle.acap_ordmap.proofs.Logic.{first_not, second_not, or_regrouped, false_and}
use Rattle.acap_inherit.specs.Chains.{base_at, onward, chain_within, chain_of}
use Rattle.acap_inherit.specs.Index.{link_cmp, is_base, IsIndexOf, heirs_in}
use Rattle.acap_inherit.specs.Reaching.{lies_in, touched_among, is_any, is_inherited, is_known, is_written_in, AreWritten, is_any_inherited, writes_in, Notes}
use Rattle.acap_inherit.specs.Touched.{by_octets, octets_total, in_order, ordered_among, touched_paths, datasets_touched, touched_at}
use Rattle.acap_inherit.specs.Touching.{changes, datasets_written, datasets_reached, paths_in, paths_found}
use Rattle.acap_inherit.specs.declared.link.Link.{Link}
use Rattle.acap_inherit.proofs.FoundLemmas.{any_among, is_in, any_heirs, wrote, reached_datasets, wrote_at, in_datasets, touched_reached, name_turned, one_kept}
use Rattle.acap_inherit.proofs.HeirLemmas.{least_heir, from_first, none_left, no_more_heirs, one_heir}
use Rattle.acap_inherit.proofs.MergeLemmas.{is_name, itself}
use Rattle.acap_inherit.proofs.PartLemmas.{kept_rises, any_part, touched_dataset_in, any_each, swapped}
use Rattle.acap_inherit.proofs.TouchedLemmas.{is_path, same_paths, any_order, order_rises, same_list, any_touched, touched_rises, absorbed}
use Rattle.acap_inherit.proofs.WrittenLemmas.{paths_of}

-- ---- the first pair of a base

module _ (base : List ℕ) (xs : List Link) (n : ℕ) (a : Ascending link_cmp xs) (e : n ≡ rank_of link_cmp (least_heir base) xs) where
  pub none_first : slice_get xs n ≡ None → false ≡ is_inherited xs base
  none_first f = ap is_any (none_left base xs n [] f (from_first base xs n a e))

  other_first : (x : Link) → slice_get xs n ≡ Some x → octets_eq base x.base ≡ false → false ≡ is_inherited xs base
  other_first x f t = ap is_any (no_more_heirs base x xs n [] a f (omega (arith, e)) t (from_first base xs n a e))

  own_first : (x : Link) → slice_get xs n ≡ Some x → octets_eq base x.base ≡ true → true ≡ is_inherited xs base
  own_first x f t = ap is_any (one_heir base x xs n [] (x.heir ∷ []) x.heir f t refl refl (from_first base xs n a e))

  pub first_link : (x : Link) → slice_get xs n ≡ Some x → octets_eq base x.base ≡ is_inherited xs base
  first_link x f =
      elim (octets_eq base x.base) as (λ b. octets_eq base x.base ≡ b → b ≡ is_inherited xs base) [
        | true ↦ λ t. own_first x f t
        | false ↦ λ t. other_first x f t
      ] refl

-- ---- where nothing inherits from a written dataset

no_heir : (links : List Link) (known : List (Bor (List ℕ))) (base : List ℕ) → is_any_inherited links known ≡ false → is_known known base ≡ true → is_inherited links base ≡ false
no_heir links [] base none is = cc
no_heir links (k ∷ known) base none is =
    elim (octets_eq k.now base) as (λ b. octets_eq k.now base ≡ b → (b || is_known known base) ≡ true → is_inherited links base ≡ false) [
      | true ↦ λ t _. ap (is_inherited links) (sym (same_text k.now base (sym t))) ∙ first_not _ _ none
      | false ↦ λ _ s. no_heir links known base (second_not _ _ none) s
    ] refl is

one_any : (heir : List ℕ) (heirs : List (List ℕ)) → is_in heir heirs ≡ true → is_any heirs ≡ true
one_any heir [] e = e
one_any heir (h ∷ heirs) e = refl

based : (old : Stored) (links : List Link) (d base : List ℕ) → IsIndexOf old links → base_at old d ≡ Some base → is_inherited links base ≡ true
based old links d base index e =
    one_any d (heirs_in links base) (any_heirs links base d ∙ (index.each base d ∙ (ap (λ found. is_base found base) e ∙ itself base)))

module _ (written : Written) (old : Stored) (links : List Link) (known : List (Bor (List ℕ))) (index : IsIndexOf old links) (are : AreWritten written old known) (none : is_any_inherited links known ≡ false) where
  base_unwritten : (d base : List ℕ) → base_at old d ≡ Some base → is_written_in written old base ≡ false
  base_unwritten d base e =
      elim (is_written_in written old base) as (λ b. is_written_in written old base ≡ b → b ≡ false) [
        | true ↦ λ w. (let heirless = no_heir links known base none (are base ∙ w) in let heirs = based old links d base index e in cc)
        | false ↦ λ _. refl
      ] refl

  alone_within : (k : ℕ) (d : List ℕ) → is_written_in written old d ≡ false → list_any (is_written_in written old) (chain_within k old d) ≡ false
  unfolding chain_within
  alone_within zero d n = refl
  alone_within (suc k) d n =
      ap (λ b. b || list_any (is_written_in written old) (onward (base_at old d) (chain_within k old))) n
      ∙ elim (base_at old d) as (λ base. base_at old d ≡ base → list_any (is_written_in written old) (onward base (chain_within k old)) ≡ false) [
        | None ↦ λ _. refl
        | Some base ↦ λ e. alone_within k base (base_unwritten d base e)
      ] refl

  pub not_reached : (d : List ℕ) → is_known known d ≡ false → false ≡ list_any (is_written_in written old) (chain_of old d false)
  not_reached d n = sym (alone_within 8 d (sym (are d) ∙ n))

pub reached_itself : (written : Written) (old : Stored) (known : List (Bor (List ℕ))) → AreWritten written old known → (d : List ℕ) → is_known known d ≡ true → true ≡ list_any (is_written_in written old) (chain_of old d false)
unfolding chain_within
reached_itself written old known are d e = ap (λ b. b || list_any (is_written_in written old) (onward (base_at old d) (chain_within 7 old))) (sym e ∙ are d)

-- ---- whether something is touched in a dataset

wrote_in : (written : Written) (old : Stored) (m : List ℕ) → is_written_in written old m ≡ wrote written old m
wrote_in written old m = λ i. list_any (λ d. name_turned m d i) (datasets_written written old)

pub has_touched : (change : Change) (old new : Store) (links : List Link) (left : Stored) (d : List ℕ) → IsIndexOf old.records links → IsStoreAfter change old new → left ≡ new.records
    → (list_any (is_written_in change.writes old.records) (chain_of old.records d false) && dataset_exists left d) ≡ list_any (octets_eq d) (datasets_touched change.writes old.records new.records)
has_touched change old new links left d index h same =
    (λ i. list_any (λ m. wrote_in change.writes old.records m i) (chain_of old.records d false) && dataset_exists (same i) d)
    ∙ (ap (λ b. b && dataset_exists new.records d) (sym (reached_datasets change.writes old.records links index d))
    ∙ (sym (touched_dataset_in change.writes old.records new.records links h.paths index d)
    ∙ (sym (any_among octets_cmp nat_list_cmp_total d (each (λ (p : Path). p.dataset) (touched_paths change.writes old.records new.records)) []
    ∙ (or-false _ ∙ any_each (is_name d) (λ (p : Path). p.dataset) (touched_paths change.writes old.records new.records)))
    ∙ (λ i. list_any (λ m. sym (texts_ties d m) i) (datasets_touched change.writes old.records new.records)))))

-- where nothing inherits from a written dataset, nothing is touched in another one
pub touches_none : (change : Change) (old new : Store) (links : List Link) (known : List (Bor (List ℕ))) (d : List ℕ) → IsIndexOf old.records links → AreWritten change.writes old.records known
    → is_any_inherited links known ≡ false → is_known known d ≡ false → IsStoreAfter change old new → false ≡ list_any (octets_eq d) (datasets_touched change.writes old.records new.records)
touches_none change old new links known d index are none not h =
    ap (λ b. b && dataset_exists new.records d) (not_reached change.writes old.records links known index are none d not)
    ∙ has_touched change old new links new.records d index h refl

-- an only dataset is the one that is known
pub alone_known : (known : List (Bor (List ℕ))) (other : Bor (List ℕ)) (d : List ℕ) → length known < 2 → octets_eq (slice_index_or known 0 other).now d ≡ false → is_known known d ≡ false
alone_known [] other d few e = refl
alone_known (k ∷ []) other d few e = or-false (octets_eq k.now d) ∙ e
alone_known (k ∷ l ∷ ks) other d few e = absurd (omega (arith, few))

-- ---- the touched paths of some datasets

in_same : (ds : List (List ℕ)) (d : List ℕ) → list_any (octets_eq d) ds ≡ is_in d ds
in_same ds d = λ i. list_any (λ m. texts_ties d m i) ds

among_rises : (written : Written) (old new : Stored) (ds : List (List ℕ)) → Ascending by_octets (touched_among written old new ds)
among_rises written old new ds = kept_rises by_octets octets_total same_paths (lies_in ds) (touched_paths written old new) (touched_rises written old new)

in_among : (written : Written) (old new : Stored) (p : Path) (ds : List (List ℕ)) → list_any (is_path p) (touched_among written old new ds) ≡ (list_any (is_path p) (touched_paths written old new) && is_in p.dataset ds)
in_among written old new p ds =
    any_part by_octets octets_total same_paths (lies_in ds) p (touched_paths written old new)
    ∙ ap (λ b. list_any (is_path p) (touched_paths written old new) && b) (in_same ds p.dataset)

pub found_among : (change : Change) (old new : Store) (left : Stored) (ds : List (List ℕ)) (paths : List Path) → IsStoreAfter change old new → left ≡ new.records
    → paths ≡ paths_found change.writes old.records left ds → paths ≡ touched_among change.writes old.records new.records ds
found_among change old new left ds paths h same e =
    let found = flat_map (paths_in change.writes old.records new.records) ds in
    e
    ∙ (ap (λ records. paths_found change.writes old.records records ds) same
    ∙ same_list by_octets octets_total same_paths (in_order found) (touched_among change.writes old.records new.records ds) (order_rises found) (among_rises change.writes old.records new.records ds)
    (λ p.
    any_order p found
    ∙ (in_datasets change.writes old.records new.records h.paths p ds
    ∙ (ap (λ b. is_in p.dataset ds && b) (sym (any_touched change.writes old.records new.records h.paths p))
    ∙ (swapped (is_in p.dataset ds) (list_any (is_path p) (touched_paths change.writes old.records new.records))
    ∙ sym (in_among change.writes old.records new.records p ds))))))

pub all_reached : (change : Change) (old new : Store) (links : List Link) (ds : List (List ℕ)) → IsIndexOf old.records links → IsStoreAfter change old new → ds ≡ datasets_reached change.writes old.records links
    → touched_among change.writes old.records new.records ds ≡ touched_paths change.writes old.records new.records
all_reached change old new links ds index h e =
    let reached = datasets_reached change.writes old.records links in
    let touched = touched_paths change.writes old.records new.records in
    ap (touched_among change.writes old.records new.records) e
    ∙ same_list by_octets octets_total same_paths (touched_among change.writes old.records new.records reached) touched (among_rises change.writes old.records new.records reached) (touched_rises change.writes old.records new.records)
    (λ p.
    in_among change.writes old.records new.records p reached
    ∙ (swapped (list_any (is_path p) touched) (is_in p.dataset reached)
    ∙ absorbed (is_in p.dataset reached) (list_any (is_path p) touched) (λ t. touched_reached change.writes old.records new.records links h.paths index p (sym (any_touched change.writes old.records new.records h.paths p) ∙ t))))

-- ---- the datasets in which a record is put or removed

any_write : (old : Stored) (d : List ℕ) (es : List (Path × RecordEdit)) → list_any (λ w. writes_in old w d) es ≡ list_any (λ (p : Path). octets_eq p.dataset d) (paths_of (filter (changes old) es))
any_write old d [] = refl
any_write old d (w ∷ es) = ap (λ b. writes_in old w d || b) (any_write old d es) ∙ one_kept old (λ (p : Path). octets_eq p.dataset d) w es

all_written : (written : Written) (old : Stored) (d : List ℕ) → list_any (λ w. writes_in old w d) (map.entries written) ≡ is_written_in written old d
all_written written old d =
    any_write old d (map.entries written)
    ∙ ((λ i. list_any (λ (p : Path). name_turned d p.dataset i) (paths_of (filter (changes old) (map.entries written))))
    ∙ (sym (wrote_at written old d) ∙ sym (wrote_in written old d)))

-- a dataset that is known already adds nothing, and neither does a write that changes nothing
pub known_already : (old : Stored) (known : List (Bor (List ℕ))) (w : Path × RecordEdit) → is_known known w.0.dataset ≡ true → Notes w old known known
known_already old known w is d =
    elim (octets_eq w.0.dataset d) as (λ b. octets_eq w.0.dataset d ≡ b → is_known known d ≡ (is_known known d || (b && changes old w))) [
      | true ↦ λ e. (let here : is_known known d ≡ true = ap (is_known known) (sym (same_text w.0.dataset d (sym e))) ∙ is in
          here ∙ sym (ap (λ b. b || (true && changes old w)) here))
      | false ↦ λ _. sym (or-false (is_known known d))
    ] refl

pub changes_nothing : (old : Stored) (known : List (Bor (List ℕ))) (w : Path × RecordEdit) → changes old w ≡ false → Notes w old known known
changes_nothing old known w e d =
    sym (or-false (is_known known d)) ∙ ap (λ b. is_known known d || b) (false_and (octets_eq w.0.dataset d) ∙ ap (λ b. octets_eq w.0.dataset d && b) (sym e))

pub one_more : (old : Stored) (known : List (Bor (List ℕ))) (w : Path × RecordEdit) (k : Bor (List ℕ)) → k.now ≡ w.0.dataset → changes old w ≡ true → Notes w old known (known ++ k ∷ [])
one_more old known w k same e d =
    list_any-append (λ (o : Bor (List ℕ)). octets_eq o.now d) known (k ∷ [])
    ∙ ap (λ b. is_known known d || b) (or-false (octets_eq k.now d) ∙ (ap (λ n. octets_eq n d) same ∙ (sym (and-true (octets_eq w.0.dataset d)) ∙ ap (λ b. octets_eq w.0.dataset d && b) (sym e))))

pub next_write : (old : Stored) (known after : List (Bor (List ℕ))) (w : Path × RecordEdit) (es : List (Path × RecordEdit)) (i : ℕ) (d : List ℕ) {all : Bool} → i < length es → w ≡ get_or es i w → Notes w old known after
    → (is_known known d || list_any (λ v. writes_in old v d) (drop i es)) ≡ all → (is_known after d || list_any (λ v. writes_in old v d) (drop (i + 1) es)) ≡ all
next_write old known after w es i d within at notes h =
    let rest = list_any (λ v. writes_in old v d) (drop (i + 1) es) in
    ap (λ b. b || rest) (notes d)
    ∙ (sym (or_regrouped (is_known known d) (writes_in old w d) rest)
    ∙ (ap (λ b. is_known known d || b) (ap (λ v. writes_in old v d || rest) at ∙ sym (at_drop_more (list_any (λ v. writes_in old v d)) es i w within))
    ∙ h))

pub all_noted : (written : Written) (old : Stored) (known : List (Bor (List ℕ))) (i : ℕ) (d : List ℕ) → length (map.entries written) ≤ i
    → (is_known known d || list_any (λ v. writes_in old v d) (drop i (map.entries written))) ≡ list_any (λ v. writes_in old v d) (map.entries written) → is_known known d ≡ is_written_in written old d
all_noted written old known i d le h =
    sym (or-false (is_known known d))
    ∙ (ap (λ es. is_known known d || list_any (λ v. writes_in old v d) es) (sym (drop_all i (map.entries written) le))
    ∙ (h ∙ all_written written old d))

-- ---- where nothing is touched in a dataset

any_there : (d : List ℕ) (ps : List Path) → list_any (λ (p : Path). octets_eq d p.dataset) ps ≡ list_any (octets_eq d) (ordered_among octets_cmp (each (λ (p : Path). p.dataset) ps) [])
any_there d ps =
    (λ i. list_any (λ (p : Path). texts_ties d p.dataset i) ps)
    ∙ (sym (any_among octets_cmp nat_list_cmp_total d (each (λ (p : Path). p.dataset) ps) []
    ∙ (or-false _ ∙ any_each (is_name d) (λ (p : Path). p.dataset) ps))
    ∙ (λ i. list_any (λ m. sym (texts_ties d m) i) (ordered_among octets_cmp (each (λ (p : Path). p.dataset) ps) [])))

none_there : (p : Path → Bool) (ps : List Path) → list_any p ps ≡ false → filter p ps ≡ []
none_there p [] e = refl
none_there p (x ∷ ps) e = rw (first_not (p x) _ e) (none_there p ps (second_not (p x) _ e))

pub none_touched : (written : Written) (old new : Stored) (d : List ℕ) → false ≡ list_any (octets_eq d) (datasets_touched written old new) → [] ≡ touched_at written old new d
none_touched written old new d e =
    sym (none_there (λ (p : Path). octets_eq d p.dataset) (touched_paths written old new) (any_there d (touched_paths written old new) ∙ sym e))

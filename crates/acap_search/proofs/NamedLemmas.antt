-- What is found by a key that gives the only name.
use Rattle.std.proofs.Common.{◌≡◌, ◌<◌, ℕ, Bool, true, false, cond, is_some, ◌&&◌, ◌||◌, codes, Option, Some, None, List, [], ◌∷◌, length, refl, sym, ◌∙◌, ap, subst, arith}
use Rattle.std.specs.FinMap as map
use Rattle.std.specs.List.{filter, filter_map, cons_option, list_any}
use Rattle.std.specs.Cmp.{first_so, second_so, tied_itself}
use Rattle.std.specs.Cmp.Lexicographic.{nat_list_cmp_total, same_text, texts_ties}
use Rattle.std.specs.Ordering.{is_lt, is_eq}
use Rattle.std.specs.declared.cmp.Ordering.TheVariants.{Equal, Greater}
use Rattle.acap_entries.specs.Orders.{octets_cmp, octets_eq}
use Rattle.acap_entries.specs.Store.{Stored}
use Rattle.acap_entries.specs.declared.record.Cell.{Cell}
use Rattle.acap_entries.specs.declared.record.Cell.TheVariants.{Nil, Single}
use Rattle.acap_entries.specs.declared.record.Record.{Record}
use Rattle.acap_commands.specs.Wanted.{Wanted, One, And, Or, Not}
use Rattle.acap_commands.specs.declared.test.Relation.{Relation}
use Rattle.acap_commands.specs.declared.test.Relation.TheVariants as relation
use Rattle.acap_commands.specs.declared.test.Test.TheVariants as test
use Rattle.acap_order.specs.declared.comparator.Collation.{Collation}
use Rattle.acap_order.specs.declared.comparator.Collation.TheVariants.{Octet, AsciiCasemap, AsciiNumeric}
use Rattle.acap_order.specs.declared.comparator.Direction.{Direction}
use Rattle.acap_order.specs.declared.comparator.Direction.TheVariants.{Ascending, Descending}
use Rattle.acap_order.specs.declared.comparator.Comparator.{Comparator}
use Rattle.acap_order.specs.Ranks.{rank_of, rank_cmp, in_direction, comparator_eq}
use Rattle.acap_inherit.specs.EntryNames.{names_on}
use Rattle.acap_inherit.specs.Laws.{NamesLaw}
use Rattle.acap_inherit.specs.Merging.{is_below, is_rising}
use Rattle.acap_inherit.specs.Records.{record_at}
use Rattle.acap_inherit.specs.Resolving.{Resolution, by_presence, entry_on, members_for, lookup}
use Rattle.acap_rights.specs.declared.rights.Rights.{Rights}
use Rattle.acap_search.specs.Keys.{stands_so, some_text, is_octet, is_equal, tested_cell, passes, holds}
use Rattle.acap_search.specs.Matches.{Match}
use Rattle.acap_search.specs.RecordCaches.{lies_in}
use Rattle.acap_search.proofs.CacheLemmas.{names_alone}
use Rattle.acap_entries.specs.declared.path.Path.{Path}
use Rattle.acap_ordmap.proofs.Logic.{is_eq-reverse, unequal_from_is_lt, OnOk_then}
use Rattle.std.specs.Prelude.{Result, OnOk}
use Rattle.acap_search.specs.Gathering.{with_more, with_one}
use Rattle.acap_search.specs.declared.found_matches.FoundMatches.{FoundMatches}
use Rattle.acap_search.proofs.FoundLemmas.{gathered_none}
use Rattle.acap_search.specs.Walks.{names_count, hits_along}
use Rattle.std.proofs.lemmas.List.{length-map}
use Rattle.acap_search.specs.Named.{NameLaw, first_of, only_name}
use Rattle.acap_search.specs.Sight.{Answers, cell_at, is_held, is_seen, may_test}
use Rattle.acap_search.specs.Views.{View, spot_in, answers_of, found_at, rights_in}
use Rattle.acap_search.specs.declared.query.SearchSpec.{SearchSpec}

-- ---- what the key wants is tested by its name

-- whether a cell stands to a name as EQUAL by octets wants it
abbrev has_name : Comparator → List ℕ → Cell → Bool
has_name comparator name = some_text (λ text. comparator_eq comparator text name)

-- the test of the name, whatever its comparator's direction
pub record IsNamed (name : List ℕ) (answers : Answers) : Type 0 where
  pub comparator : Comparator
  pub octets : is_octet comparator.collation ≡ true
  pub has : has_name comparator name (answers.test (codes "entry")) ≡ true

named_by : (name : List ℕ) (rel : Relation) (attribute : List ℕ) (comparator : Comparator) (wanted : List ℕ) (place : Option ℕ) (answers : Answers)
    → cond ((is_equal rel && is_octet comparator.collation) && octets_eq attribute (codes "entry")) (Some wanted) None ≡ Some name
    → passes (test.Meets rel attribute comparator wanted) place answers ≡ true → IsNamed name answers
named_by name relation.Equal attribute comparator wanted place answers e p =
    elim (is_octet comparator.collation) as (λ o. is_octet comparator.collation ≡ o → cond (o && octets_eq attribute (codes "entry")) (Some wanted) None ≡ Some name
    → some_text (stands_so relation.Equal comparator wanted) (tested_cell o answers attribute) ≡ true → IsNamed name answers) [
      | false ↦ λ o e p. absurd (cc (e))
      | true ↦ λ o. elim (octets_eq attribute (codes "entry")) as (λ b. octets_eq attribute (codes "entry") ≡ b → cond b (Some wanted) None ≡ Some name
          → some_text (stands_so relation.Equal comparator wanted) (answers.test attribute) ≡ true → IsNamed name answers) [
            | false ↦ λ b e p. absurd (cc (e))
            | true ↦ λ b e p.
                let is : wanted ≡ name = cc (e) in
                let entry : attribute ≡ codes "entry" = same_text attribute (codes "entry") (sym b) in
                record { comparator = comparator; octets = o; has = (λ i. some_text (λ text. comparator_eq comparator text (sym is i)) (answers.test (sym entry i))) ∙ p }
          ] refl
    ] refl e p
named_by name relation.AtLeast attribute comparator wanted place answers e p = absurd (cc (e))
named_by name relation.Greater attribute comparator wanted place answers e p = absurd (cc (e))
named_by name relation.Begins attribute comparator wanted place answers e p = absurd (cc (e))
named_by name relation.Contains attribute comparator wanted place answers e p = absurd (cc (e))

pub named : (name : List ℕ) (key : Wanted) (place : Option ℕ) (answers : Answers) → only_name key ≡ Some name → holds key place answers ≡ true → IsNamed name answers
named name (One test.All) place answers e h = absurd (cc (e))
named name (One (test.IsNil attribute comparator)) place answers e h = absurd (cc (e))
named name (One (test.Meets rel attribute comparator wanted)) place answers e h = named_by name rel attribute comparator wanted place answers e h
named name (One (test.Range first last since)) place answers e h = absurd (cc (e))
named name (And a b) place answers e h =
    elim (only_name a) as (λ o. only_name a ≡ o → first_of o (only_name b) ≡ Some name → IsNamed name answers) [
      | Some other ↦ λ o i. named name a place answers (o ∙ i) (first_so _ _ h)
      | None ↦ λ o i. named name b place answers i (second_so _ _ h)
    ] refl e
named name (Or a b) place answers e h = absurd (cc (e))
named name (Not a) place answers e h = absurd (cc (e))

-- ---- the value of `entry` is the name

some_of : {X : Type 0} (p : X → Bool) (xs : List X) → list_any p xs ≡ true → 0 < length xs
some_of p [] e = absurd (cc (e))
some_of p (x ∷ xs) e = omega arith

same_itself : (a : List ℕ) → octets_eq a a ≡ true
same_itself a = texts_ties a a ∙ ap is_eq (tied_itself nat_list_cmp_total a)

by_octets : (collation : Collation) (direction : Direction) (a b : List ℕ) → is_octet collation ≡ true
    → is_eq (in_direction direction (rank_cmp (rank_of collation a) (rank_of collation b))) ≡ true → a ≡ b
by_octets Octet Ascending a b o e = same_text a b (sym (texts_ties a b ∙ e))
by_octets Octet Descending a b o e = same_text a b (sym (texts_ties a b ∙ (sym (is_eq-reverse (octets_cmp a b)) ∙ e)))
by_octets AsciiCasemap direction a b o e = absurd (cc (o))
by_octets AsciiNumeric direction a b o e = absurd (cc (o))

-- a resolution is the name, or nothing
abbrev IsName : List ℕ → Resolution → Type 0
IsName name None = Unit {0}
IsName name (Some found) = found.0 ≡ Single name

name_by : (o : Option Record) (name dataset : List ℕ) (beyond : Resolution) → IsName name beyond → IsName name (by_presence o name dataset beyond)
name_by None name dataset beyond h = h
name_by (Some entry) name dataset beyond h =
    elim entry.present as (λ b. IsName name (cond b (Some (Single name, dataset)) None)) [ true ↦ refl | false ↦ tt ]

name_on : (records : Stored) (chain : List (List ℕ)) (name : List ℕ) → IsName name (entry_on records chain name)
name_on records [] name = tt
name_on records (dataset ∷ chain) name = name_by (record_at records dataset name) name dataset (entry_on records chain name) (name_on records chain name)

name_shown : (may : Rights → Bool) (here : Rights) (rights_at : List ℕ → Rights) (name other : List ℕ) (comparator : Comparator) (found : Resolution) → IsName name found
    → is_octet comparator.collation ≡ true → has_name comparator other (cell_at may here rights_at found) ≡ true → name ≡ other
name_shown may here rights_at name other comparator None n o h = absurd (cc (h))
name_shown may here rights_at name other comparator (Some found) n o h =
    elim (is_held may here rights_at (Some found)) as (λ b. has_name comparator other (cond b found.0 Nil) ≡ true → name ≡ other) [
      | true ↦ λ h. by_octets comparator.collation comparator.direction name other o (ap (has_name comparator other) (sym n) ∙ h)
      | false ↦ λ h. absurd (cc (h))
    ] h

module _ (view : View) where
  abbrev answers_to : List ℕ → Answers
  answers_to name = answers_of (spot_in view name)

  resolved : (name : List ℕ) → IsName name (lookup view.records view.chain name (codes "entry"))
  unfolding lookup
  resolved name = name_on view.records (members_for view.chain name) name

  -- an entry that the key wants has the name
  pub name_is : (key : Wanted) (place : Option ℕ) (name other : List ℕ) → only_name key ≡ Some other → holds key place (answers_to name) ≡ true → name ≡ other
  name_is key place name other e h =
      let by = named other key place (answers_to name) e h in
      name_shown may_test (rights_in view view.dataset (codes "entry") name) (λ dataset. rights_in view dataset (codes "entry") name) name other by.comparator (lookup view.records view.chain name (codes "entry")) (resolved name) by.octets by.has

  -- and of another name there is none
  other_none : (sought : SearchSpec) (name other : List ℕ) → only_name sought.key ≡ Some other → octets_eq other name ≡ false → found_at sought None (spot_in view name) ≡ None
  other_none sought name other e n =
      elim (is_seen (answers_to name)) as (λ (s : Bool). (m : Match) → cond s (cond (holds sought.key None (answers_to name)) (Some m) None) None ≡ None) [
        | false ↦ λ m. refl
        | true ↦ λ m. elim (holds sought.key None (answers_to name)) as (λ b. holds sought.key None (answers_to name) ≡ b → cond b (Some m) None ≡ None) [
          | false ↦ λ h. refl
          | true ↦ λ h. absurd (cc (n, ap (octets_eq other) (name_is sought.key None name other e h), same_itself other))
        ] refl
      ] _

pub name_law : NameLaw
name_law = name_is

-- ---- among names that rise it is found once, or not at all

module _ (view : View) (sought : SearchSpec) (name : List ℕ) (only : only_name sought.key ≡ Some name) where
  abbrev at_name : List ℕ → Option Match
  at_name other = found_at sought None (spot_in view other)

  none_of_all : (a b : Bool) → (a || b) ≡ false → (a ≡ false) × (b ≡ false)
  none_of_all true b e = absurd (cc (e))
  none_of_all false b e = (refl, e)

  pub none_found : (names : List (List ℕ)) → list_any (octets_eq name) names ≡ false → filter_map at_name names ≡ []
  none_found [] e = refl
  none_found (other ∷ names) e =
      let parts = none_of_all _ _ e in
      ap (λ o. cons_option o (filter_map at_name names)) (other_none view sought other name only parts.0) ∙ none_found names parts.1

  lesser : (a b : List ℕ) → is_lt (octets_cmp a b) ≡ true → octets_eq a b ≡ false
  lesser a b e = texts_ties a b ∙ unequal_from_is_lt (octets_cmp a b) e

  below : (first : List ℕ) (names : List (List ℕ)) → is_below first names ≡ true → list_any (octets_eq first) names ≡ false
  below first [] e = refl
  below first (other ∷ names) e = (λ i. lesser first other (first_so _ _ e) i || below first names (second_so _ _ e) i)

  pub one_found : (names : List (List ℕ)) → is_rising names ≡ true → list_any (octets_eq name) names ≡ true → filter_map at_name names ≡ cons_option (at_name name) []
  one_found [] r e = absurd (cc (e))
  one_found (other ∷ names) r e =
      elim (octets_eq name other) as (λ b. octets_eq name other ≡ b → (b || list_any (octets_eq name) names) ≡ true → cons_option (at_name other) (filter_map at_name names) ≡ cons_option (at_name name) []) [
        | true ↦ λ t e.
            let is : name ≡ other = same_text name other (sym t) in
            ap (λ o. cons_option (at_name o) (filter_map at_name names)) (sym is)
            ∙ ap (cons_option (at_name name)) (none_found names (ap (λ o. list_any (octets_eq o) names) is ∙ below other names (first_so _ _ r)))
        | false ↦ λ t e. ap (λ o. cons_option o (filter_map at_name names)) (other_none view sought other name only t) ∙ one_found names (second_so _ _ r) e
      ] refl e

  module _ (law : NamesLaw) where
    abbrev has_one : Bool
    has_one = list_any (λ dataset. is_some (record_at view.records dataset name)) view.chain

    pub hits_one : has_one ≡ true → filter_map at_name (names_on view.records view.chain) ≡ cons_option (at_name name) []
    hits_one h = one_found (names_on view.records view.chain) (law.rising view.records view.chain) (law.names view.records view.chain name ∙ h)

    pub hits_none : has_one ≡ false → filter_map at_name (names_on view.records view.chain) ≡ []
    hits_none h = none_found (names_on view.records view.chain) (law.names view.records view.chain name ∙ h)

    pub some_name : has_one ≡ true → 0 < length (names_on view.records view.chain)
    some_name h = some_of (octets_eq name) (names_on view.records view.chain) (law.names view.records view.chain name ∙ h)

-- in a dataset that inherits nothing there are as many names as records
pub alone_count : (view by : View) (dataset : List ℕ) (es : List (Path × Record)) (count : ℕ) → view ≡ by → view.chain ≡ dataset ∷ [] → es ≡ filter (lies_in dataset) (map.entries view.records) → count ≡ length es
    → count ≡ names_count by
alone_count view by dataset es count v e h c =
    c
    ∙ (ap length h
    ∙ (sym (length-map (filter (lies_in dataset) (map.entries view.records)) (λ e. e.0.name))
    ∙ (sym (ap length (names_alone view.records dataset view.chain e)) ∙ ap names_count v)))

module _ (law : NamesLaw) (view by : View) (same : view ≡ by) (sought : SearchSpec) (name : List ℕ) (only : only_name sought.key ≡ Some name) where
  pub named_some : true ≡ has_one view sought name only law → 0 < names_count by
  named_some h = subst (λ view. 0 < names_count view) same (some_name view sought name only law (sym h))

  one_by : true ≡ has_one view sought name only law → hits_along by sought ≡ cons_option (found_at sought None (spot_in by name)) []
  one_by h = subst (λ view. hits_along view sought ≡ cons_option (found_at sought None (spot_in view name)) []) same (hits_one view sought name only law (sym h))

  pub named_found : {X F : Type 0} (r : Result X F) (told : List ℕ) (before after : FoundMatches) → true ≡ has_one view sought name only law → told ≡ name
      → OnOk r (after ≡ with_one before (found_at sought None (spot_in by told))) → OnOk r (after ≡ with_more before (hits_along by sought))
  named_found r told before after h t =
      OnOk_then r (λ f. f ∙ (ap (λ name. with_one before (found_at sought None (spot_in by name))) t ∙ ap (with_more before) (sym (one_by h))))

  pub named_none : (before : FoundMatches) → false ≡ has_one view sought name only law → before ≡ with_more before (hits_along by sought)
  named_none before h =
      sym (ap (with_more before) (subst (λ view. hits_along view sought ≡ []) same (hits_none view sought name only law (sym h))) ∙ gathered_none before)

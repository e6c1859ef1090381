-- A path that a change doesn't touch is seen alike before and after it.
use Rattle.std.proofs.Common.{◌≡◌, ◌↔◌, ◌⊎◌, inl, inr, ℕ, Bool, true, false, cond, ◌&&◌, ◌||◌, is_some, Some, None, List, [], ◌∷◌, refl, sym, ◌∙◌, ap}
use Rattle.std.specs.Cmp.Lexicographic.{bytes_decides}
use Rattle.std.specs.FinMap as map
use Rattle.std.specs.List.{list_any, Contains}
use Rattle.std.specs.Option.{option_and_then, option_or, unwrap_or}
use Rattle.std.proofs.lemmas.Map.Views.{Contains-from_any}
use Rattle.acap_entries.specs.Datasets.{dataset_exists}
use Rattle.acap_entries.specs.Orders.{octets_eq}
use Rattle.acap_entries.specs.Store.{Stored, Written}
use Rattle.acap_entries.specs.declared.record.Cell.TheVariants.{Nil}
use Rattle.acap_entries.specs.declared.path.Path.{Path}
use Rattle.acap_ordmap.proofs.Logic.{Contains-here}
use Rattle.acap_inherit.specs.Chains.{chain_of, chain_within}
use Rattle.acap_inherit.specs.Laws.{NothingLaw, NamesLaw}
use Rattle.acap_inherit.specs.Records.{record_at}
use Rattle.acap_inherit.specs.Resolving.{Resolution, lookup}
use Rattle.acap_inherit.specs.Touched.{has_record_on, is_touched}
use Rattle.acap_inherit.specs.TouchedLaws.{IsStep, IsReadAlike, IsNowhere, IsAnsweredAlike, UnreadLaw}
use Rattle.acap_inherit.proofs.UnreadLaws.{chain_alone, empty_there, none_along, within_chain, none_at}
use Rattle.acap_rights.specs.Deciding.{kept_list, list_in, attribute_list_name, dataset_list_name, deciding_list, implicit_rights, rights_of}
use Rattle.acap_rights.specs.Homes.{default_list}
use Rattle.acap_rights.specs.Pairs.{rights_in}
use Rattle.acap_rights.specs.Rights.{union}
use Rattle.acap_rights.specs.declared.realm.Realm.{Realm}
use Rattle.acap_rights.specs.declared.rights.Rights.{Rights}
use Rattle.acap_search.specs.Fresh.{IsSameAnswers, answers_on, sight_of, tuple_of}
use Rattle.acap_search.specs.Laws.{TupleLaw}
use Rattle.acap_search.specs.Rows.{attributes_at, stars_of}
use Rattle.acap_search.specs.Scopes.{Scope, scope_of, datasets_of}
use Rattle.acap_search.specs.Sight.{may_read, may_test, is_held, cell_at, own_acl, rights_on, is_readable, is_seen}
use Rattle.acap_search.specs.Touched.{AreSoundWrites, TouchedLaw}
use Rattle.acap_search.specs.Tuples.{tuple_for}
use Rattle.acap_search.specs.declared.query.SearchSpec.{SearchSpec}
use Rattle.acap_search.proofs.OnceLemmas.{looked_through_too, scope_law}
use Rattle.acap_search.proofs.SeenLemmas.{either, same_name, not_any, unseen, all_seen, only_seen, tuple_law}
use Rattle.acap_search.proofs.SightLemmas.{tuple_same}
use Rattle.acap_search.proofs.Stars.{covers}

in_or_out : (d : List ℕ) (ds : List (List ℕ)) → Contains ds d ⊎ (Contains ds d → ⊥)
in_or_out d ds =
    elim (list_any (octets_eq d) ds) as (λ b. list_any (octets_eq d) ds ≡ b → Contains ds d ⊎ (Contains ds d → ⊥)) [
      | true ↦ λ e. inl (Contains-from_any same_name d ds e)
      | false ↦ λ e. inr (λ k. cc (not_any (octets_eq d) ds d e k, (bytes_decides d d).1 refl))
    ] refl

-- ---- rights, where the records that lists are kept in agree

kept_same : (old new : Stored) (d a : List ℕ) → record_at old d [] ≡ record_at new d [] → kept_list old d a ≡ kept_list new d a
kept_same old new d a h = ap (λ o. option_and_then list_in (option_and_then (λ entry. map.get entry.cells a) o)) h

own_same : (old new : Stored) (d n a : List ℕ) → record_at old d n ≡ record_at new d n → own_acl old d n a ≡ own_acl new d n a
own_same old new d n a h = ap (λ o. option_and_then (λ entry. map.get entry.acls a) o) h

rights_same : (old new : Stored) (realm : Realm) (user a n d : List ℕ) → record_at old d n ≡ record_at new d n → record_at old d [] ≡ record_at new d [] → rights_on old realm user a n d ≡ rights_on new realm user a n d
unfolding rights_of deciding_list
rights_same old new realm user a n d own management i =
    union (rights_in realm user (unwrap_or (option_or (own_same old new d n a own i) (option_or (kept_same old new d (attribute_list_name a) management i) (kept_same old new d dataset_list_name management i))) (default_list d)))
    (implicit_rights realm user d)

first_in : (records : Stored) (d : List ℕ) (b : Bool) → Contains (chain_of records d b) d
unfolding chain_within
first_in records d true = Contains-here d []
first_in records d false = Contains-here d _

-- ---- which datasets are looked through

module _ (written : Written) (old new : Stored) (step : AreSoundWrites written old new) (scope : Scope) (d : List ℕ) (is : dataset_exists old d ≡ true) where
  still : Contains (datasets_of old scope) d → Contains (datasets_of new scope) d
  still k = looked_through_too old new step.before.formed step.after.formed scope d (step.stays d is) k

  had : Contains (datasets_of new scope) d → Contains (datasets_of old scope) d
  had k = looked_through_too new old step.after.formed step.before.formed scope d is k

there_was : (written : Written) (old new : Stored) → AreSoundWrites written old new → (scope : Scope) → dataset_exists old scope.dataset ≡ true → (d : List ℕ)
    → Contains (datasets_of old scope) d → dataset_exists old d ≡ true
there_was written old new step scope exists d k =
    either ((scope_law.members old scope d step.before exists).0 k) (λ e. ap (dataset_exists old) e ∙ exists) (λ is. is.exists)

-- ---- the answers about an entry

module _ (nothing : NothingLaw) (old new : Stored) (realm : Realm) (user : List ℕ) (p : Path) (alike : IsReadAlike old new p.dataset p.name) (answered : IsAnsweredAlike old new p.dataset p.name) (b : Bool) where
  abbrev before : List (List ℕ)
  before = chain_of old p.dataset b

  abbrev after : List (List ℕ)
  after = chain_of new p.dataset b

  rights_there : (a d : List ℕ) → Contains before d → rights_on old realm user a p.name d ≡ rights_on new realm user a p.name d
  rights_there a d k =
      let on : Contains (chain_of old p.dataset false) d = within_chain old p.dataset b d k in
      rights_same old new realm user a p.name d (alike.records d on) (alike.management d on)

  rights_here : (a : List ℕ) → rights_on old realm user a p.name p.dataset ≡ rights_on new realm user a p.name p.dataset
  rights_here a = rights_there a p.dataset (first_in old p.dataset b)

  held_same : (may : Rights → Bool) (a : List ℕ) (found : Resolution) → lookup old before p.name a ≡ found
      → is_held may (rights_on old realm user a p.name p.dataset) (rights_on old realm user a p.name) found ≡ is_held may (rights_on new realm user a p.name p.dataset) (rights_on new realm user a p.name) found
  held_same may a None e = ap may (rights_here a)
  held_same may a (Some found) e =
      let lies : rights_on old realm user a p.name found.1 ≡ rights_on new realm user a p.name found.1 = rights_there a found.1 (nothing.within old before p.name a found.0 found.1 e) in
      λ i. may (rights_here a i) && may (lies i)

  cell_same : (may : Rights → Bool) (a : List ℕ) (found : Resolution) → lookup old before p.name a ≡ found
      → cell_at may (rights_on old realm user a p.name p.dataset) (rights_on old realm user a p.name) found ≡ cell_at may (rights_on new realm user a p.name p.dataset) (rights_on new realm user a p.name) found
  cell_same may a None e = refl
  cell_same may a (Some found) e = ap (λ held. cond held found.0 Nil) (held_same may a (Some found) e)

  level : (may : Rights → Bool) (a : List ℕ)
      → cell_at may (rights_on old realm user a p.name p.dataset) (rights_on old realm user a p.name) (lookup old before p.name a)
      ≡ cell_at may (rights_on new realm user a p.name p.dataset) (rights_on new realm user a p.name) (lookup new after p.name a)
  level may a = cell_same may a (lookup old before p.name a) refl ∙ ap (cell_at may (rights_on new realm user a p.name p.dataset) (rights_on new realm user a p.name)) (answered.attribute b a)

  readable : (a : List ℕ) → is_readable old realm user p.dataset before p.name a ≡ is_readable new realm user p.dataset after p.name a
  readable a =
      held_same may_read a (lookup old before p.name a) refl
      ∙ ap (is_held may_read (rights_on new realm user a p.name p.dataset) (rights_on new realm user a p.name)) (answered.attribute b a)

  answers_same : IsSameAnswers (answers_on old realm user b p) (answers_on new realm user b p)
  answers_same = record {
    read = level may_read;
    test = level may_test;
    acl = λ a i. cond (readable a i) (own_same old new p.dataset p.name a (alike.records p.dataset (first_in old p.dataset false)) i) None;
    rights = rights_here;
  }

-- ---- tuples and sight

module _ (nothing : NothingLaw) (names : NamesLaw) (unread : UnreadLaw) (written : Written) (old new : Stored) (step : AreSoundWrites written old new) (realm : Realm) (user : List ℕ) (p : Path) (untouched : is_touched written old new p ≡ false) where
  housed : IsStep written old new
  housed = record { paths = step.paths; before = step.before.housed; after = step.after.housed; stays = step.stays }

  -- an entry without a record along the chain isn't seen
  hidden : (records : Stored) (scope : Scope) → has_record_on records (chain_of records p.dataset false) p.name ≡ false → is_seen (answers_on records realm user scope.no_inherit p) ≡ false
  hidden records scope h = unseen nothing names records realm user scope p (λ d k. none_at records p.dataset p.name h scope.no_inherit d k)

  -- nor is one of a dataset that the change makes, if it isn't touched
  nowhere_new : IsReadAlike old new p.dataset p.name → dataset_exists old p.dataset ≡ false → IsNowhere old new p.dataset p.name
  nowhere_new alike none =
      let empty = empty_there old step.before.housed p.dataset none in
      let alone : chain_of old p.dataset false ≡ p.dataset ∷ [] = chain_alone old p.dataset (empty []) in
      let gone : record_at new p.dataset p.name ≡ None = sym (alike.records p.dataset (first_in old p.dataset false)) ∙ empty p.name in
      record {
        before = none_along old p.dataset p.name empty;
        after = ap (λ chain. has_record_on new chain p.name) (sym alike.chain ∙ alone) ∙ ap (λ o. is_some o || false) gone;
      }

  either_way : IsNowhere old new p.dataset p.name ⊎ (IsReadAlike old new p.dataset p.name × (dataset_exists old p.dataset ≡ true))
  either_way = either (unread.read written old new housed p untouched)
      (λ alike. elim (dataset_exists old p.dataset) as (λ b. dataset_exists old p.dataset ≡ b → IsNowhere old new p.dataset p.name ⊎ (IsReadAlike old new p.dataset p.name × (dataset_exists old p.dataset ≡ true))) [
        | true ↦ λ e. inr (alike, e)
        | false ↦ λ e. inl (nowhere_new alike e)
      ] refl)
      (λ none. inl none)

  same_answers : IsReadAlike old new p.dataset p.name → (b : Bool) → IsSameAnswers (answers_on old realm user b p) (answers_on new realm user b p)
  same_answers alike b = answers_same nothing old new realm user p alike (unread.answers written old new housed p untouched) b

  seen_same : IsReadAlike old new p.dataset p.name → (b : Bool) → is_seen (answers_on old realm user b p) ≡ is_seen (answers_on new realm user b p)
  seen_same alike b = let s = same_answers alike b in λ i. is_seen (record { read = λ a. s.read a i; test = λ a. s.test a i; acl = λ a. s.acl a i; rights = λ a. s.rights a i })

  module _ (scope : Scope) where
    unsighted : {P : Type 0} (records : Stored) → has_record_on records (chain_of records p.dataset false) p.name ≡ false → Contains (sight_of records realm user scope).paths p → P
    unsighted records h k = absurd (cc (hidden records scope h, (only_seen nothing names records realm user scope p k).1))

    sight_same : Contains (sight_of old realm user scope).paths p ↔ Contains (sight_of new realm user scope).paths p
    sight_same = either either_way
        (λ none. (unsighted old none.before, unsighted new none.after))
        (λ r. (
          λ k. let s = only_seen nothing names old realm user scope p k in
              all_seen nothing names new realm user scope p (still written old new step scope p.dataset r.1 s.0) (sym (seen_same r.0 scope.no_inherit) ∙ s.1),
          λ k. let s = only_seen nothing names new realm user scope p k in
              all_seen nothing names old realm user scope p (had written old new step scope p.dataset r.1 s.0) (seen_same r.0 scope.no_inherit ∙ s.1),
        ))

  module _ (sought : SearchSpec) where
    tuples : TupleLaw
    tuples = tuple_law nothing names

    no_tuple : (records : Stored) → has_record_on records (chain_of records p.dataset false) p.name ≡ false → tuple_of (sight_of records realm user (scope_of sought)) sought p ≡ None
    no_tuple records h = either (in_or_out p.dataset (datasets_of records (scope_of sought)))
        (λ k. tuples.inside records realm user sought p k
        ∙ ap (λ b. cond b (tuple_for sought None p (answers_on records realm user sought.no_inherit p) (stars_of (answers_on records realm user sought.no_inherit p).read (attributes_at records p.name (chain_of records p.dataset sought.no_inherit)))) None)
        (hidden records (scope_of sought) h))
        (λ k. tuples.outside records realm user sought p k)

    both_inside : IsReadAlike old new p.dataset p.name → Contains (datasets_of old (scope_of sought)) p.dataset → Contains (datasets_of new (scope_of sought)) p.dataset
        → tuple_of (sight_of old realm user (scope_of sought)) sought p ≡ tuple_of (sight_of new realm user (scope_of sought)) sought p
    both_inside alike k l =
        let made = tuple_same sought p (answers_on old realm user sought.no_inherit p) (answers_on new realm user sought.no_inherit p)
        (attributes_at old p.name (chain_of old p.dataset sought.no_inherit)) (attributes_at new p.name (chain_of new p.dataset sought.no_inherit)) (same_answers alike sought.no_inherit)
        (covers nothing old realm user p.dataset (chain_of old p.dataset sought.no_inherit) p.name) (covers nothing new realm user p.dataset (chain_of new p.dataset sought.no_inherit) p.name) in
        tuples.inside old realm user sought p k
        ∙ ((λ i. cond (seen_same alike sought.no_inherit i) (made i) None)
        ∙ sym (tuples.inside new realm user sought p l))

    tuple_alike : tuple_of (sight_of old realm user (scope_of sought)) sought p ≡ tuple_of (sight_of new realm user (scope_of sought)) sought p
    tuple_alike = either either_way
        (λ none. no_tuple old none.before ∙ sym (no_tuple new none.after))
        (λ r. either (in_or_out p.dataset (datasets_of old (scope_of sought)))
        (λ k. both_inside r.0 k (still written old new step (scope_of sought) p.dataset r.1 k))
        (λ out. tuples.outside old realm user sought p out
        ∙ sym (tuples.outside new realm user sought p (λ k. out (had written old new step (scope_of sought) p.dataset r.1 k)))))

pub touched_law : NothingLaw → NamesLaw → UnreadLaw → TouchedLaw
touched_law nothing names unread = record {
  sight = λ written old new step realm user scope path e. sight_same nothing names unread written old new step realm user path e scope;
  tuples = λ written old new step realm user sought path e. tuple_alike nothing names unread written old new step realm user path e sought;
  datasets = λ written old new step scope dataset is.
      (still written old new step scope dataset is, had written old new step scope dataset is);
  only = λ written old new step scope exists dataset. there_was written old new step scope exists dataset;
}

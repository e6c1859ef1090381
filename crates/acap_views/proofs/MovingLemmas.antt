-- A live search is brought up to date by the entries that a change touches.
use Rattle.std.proofs.Common.{◌≡◌, ◌≢◌, ℕ, Bool, true, false, ◌||◌, Option, Some, None, is_some, List, [], ◌∷◌, ◌++◌, refl, sym, ◌∙◌, ap, subst, map as each}
use Rattle.std.specs.Cmp.{first_so, second_so, eq_by_cmp_equiv}
use Rattle.std.specs.Cmp.Lexicographic.{bytes_decides, nat_list_eq_equiv}
use Rattle.std.specs.FinMap as map
use Rattle.std.specs.List.{filter, list_any, Contains}
use Rattle.std.specs.Option.{option_and_then, option_map_or}
use Rattle.std.specs.declared.cmp.Ordering.TheVariants.{Less}
use Rattle.std.proofs.lemmas.List.Kept.{AllPairs-filter}
use Rattle.std.proofs.lemmas.Map.Views.{Contains-from_any, list_any-from_Contains, tells_apart}
use Rattle.std.proofs.lemmas.List.Elements.{Contains-append_cases}
use Rattle.acap_entries.proofs.FormLemmas.{form_law}
use Rattle.acap_entries.proofs.NameLemmas.{closed_by_slash}
use Rattle.acap_entries.proofs.OwnLaws.{own_entry_law}
use Rattle.acap_entries.specs.Datasets.{makes_dataset, dataset_exists}
use Rattle.acap_entries.specs.FullPaths.{IsSplit, AreWellFormed}
use Rattle.acap_entries.specs.Names.{slash, has, ends_with, own_entry}
use Rattle.acap_entries.specs.Orders.{octets_eq}
use Rattle.acap_entries.specs.Sound.{IsSoundStore}
use Rattle.acap_entries.specs.Store.{Store, Stored, Written}
use Rattle.acap_entries.specs.declared.path.Path.{Path}
use Rattle.acap_ordmap.proofs.Logic.{true_without, true_cases, one_of_any, Contains-here, Contains-there}
use Rattle.acap_inherit.specs.Chains.{chain_of}
use Rattle.acap_inherit.specs.Laws.{NothingLaw, NamesLaw}
use Rattle.acap_inherit.specs.Records.{record_at}
use Rattle.acap_inherit.specs.Touched.{by_octets, octets_total, is_written, is_written_on, has_record_on, is_reached, is_touched, touched_paths}
use Rattle.acap_inherit.specs.TouchedLaws.{TouchedPathsLaw}
use Rattle.acap_inherit.proofs.WrittenLemmas.{written_edit}
use Rattle.acap_inherit.proofs.TouchedLemmas.{same_paths}
use Rattle.acap_moves.specs.Hits.{Name, is_among, IsAscending}
use Rattle.acap_moves.specs.Moves.{moves_to, after_moves, moves_notices}
use Rattle.acap_rights.specs.declared.realm.Realm.{Realm}
use Rattle.acap_search.specs.Fresh.{Sight, answers_on, tuple_of, matches_of}
use Rattle.acap_search.specs.Fresh as paths
use Rattle.acap_search.specs.Keys.{holds}
use Rattle.acap_search.specs.Laws.{SeenLaw}
use Rattle.acap_search.specs.Matches.{Match}
use Rattle.acap_search.specs.Rows.{stars_of}
use Rattle.acap_search.specs.Scopes.{scope_of, datasets_of, beneath}
use Rattle.acap_search.specs.Sight.{is_seen}
use Rattle.acap_search.specs.Touched.{TouchedLaw}
use Rattle.acap_search.specs.Touched as search
use Rattle.acap_search.specs.Tuples.{name_told, match_of}
use Rattle.acap_search.specs.declared.query.SearchSpec.{SearchSpec}
use Rattle.acap_search.proofs.OnceLemmas.{scope_law}
use Rattle.acap_search.proofs.SeenLemmas.{named as name_seen, first_or, nowhere, either, in_map, in_filter, from_filter, same_name}
use Rattle.acap_search.proofs.TupleLemmas.{from_among as from_paths, made_is}
use Rattle.acap_views.specs.Changing.{sight_for}
use Rattle.acap_views.specs.Laws.{ChangedLaw, FoundLaw, MovedLaw}
use Rattle.acap_views.specs.Moving.{moves_of, IsTaken, TouchedMovesLaw}
use Rattle.acap_views.specs.Work.{touched_for}
use Rattle.acap_views.specs.Notices.{told_shape, match_told, changed_paths, changed_names}
use Rattle.acap_views.proofs.ListLemmas.{among, from_among}
use Rattle.acap_views.proofs.PathLemmas.{IsIn, paths_rise, names_rise, told_apart}

-- ---- names of records have no slash

there_is : {X : Type 0} (o : Option X) → is_some o ≡ true → (x : X) × (o ≡ Some x)
there_is None h = absurd (cc (h))
there_is (Some x) h = (x, refl)

-- an existing dataset ends in a slash
pub closed : (records : Stored) (d : List ℕ) → dataset_exists records d ≡ true → ends_with slash d ≡ true
closed records d =
    elim (own_entry d) as (λ o. own_entry d ≡ o → (octets_eq d (slash ∷ []) || option_map_or makes_dataset (option_and_then (λ own. record_at records own.0 own.1) o) false) ≡ true → ends_with slash d ≡ true) [
      | Some own ↦ λ e h. sym (ap (ends_with slash) ((own_entry_law d (record { dataset = own.0; name = own.1 })).0 e).1) ∙ closed_by_slash (own.0 ++ own.1)
      | None ↦ λ e h. ap (ends_with slash) ((bytes_decides d (slash ∷ [])).0 (true_without _ h))
    ] refl

pub record_name : (records : Stored) → IsSoundStore records → (chain : List (List ℕ)) (n : List ℕ) → has_record_on records chain n ≡ true → has slash n ≡ false
record_name records sound chain n h =
    let d = one_of_any (λ member. is_some (record_at records member n)) chain h in
    let r = there_is (record_at records d.0 n) d.1 in
    (form_law.split _ (sound.formed _ r.0 r.1)).name

written_name : (written : Written) (old : Stored) → AreWellFormed written → (chain : List (List ℕ)) (n : List ℕ) → is_written_on written old chain n ≡ true → has slash n ≡ false
written_name written old formed chain n h =
    let d = one_of_any (λ member. is_written written old member n) chain h in
    let r = there_is (map.get written (record { dataset = d.0; name = n })) (written_edit written old d.0 n d.1) in
    (form_law.split _ (formed _ r.0 r.1)).name

reached_name : (written : Written) (old : Stored) → AreWellFormed written → (records : Stored) → IsSoundStore records → (chain : List (List ℕ)) (n : List ℕ) → is_reached written old records chain n ≡ true → has slash n ≡ false
reached_name written old formed records sound chain n h =
    true_cases (is_written_on written old chain n) _ h (written_name written old formed chain n) (λ k. record_name records sound chain n (second_so _ _ k))

pub same_answers : (a b : Option Match) → ((m : Match) → a ≡ Some m → b ≡ Some m) → ((m : Match) → b ≡ Some m → a ≡ Some m) → a ≡ b
same_answers None None f g = refl
same_answers None (Some m) f g = g m refl
same_answers (Some m) b f g = sym (f m refl)

-- what is seen is split at its last slash
pub split_seen : NothingLaw → NamesLaw → SeenLaw → (store : Store) (realm : Realm) (user : List ℕ) (sought : SearchSpec) → IsSoundStore store.records → dataset_exists store.records sought.dataset ≡ true
    → (p : Path) → Contains (sight_for realm store user sought).paths p → IsSplit p
split_seen nothing names seen store realm user sought sound exists p k =
    let chain : List (List ℕ) = chain_of store.records p.dataset sought.no_inherit in
    let is : is_seen (answers_on store.records realm user sought.no_inherit p) ≡ true = (seen.only store.records realm user (scope_of sought) p k).1 in
    record {
      dataset = either ((scope_law.members store.records (scope_of sought) p.dataset sound exists).0 (seen.only store.records realm user (scope_of sought) p k).0)
          (λ e. closed store.records p.dataset (ap (dataset_exists store.records) e ∙ exists))
          (λ beneath. closed store.records p.dataset beneath.exists);
      name = record_name store.records sound chain p.name (sym (names.names store.records chain p.name) ∙ name_seen nothing names store.records realm user (scope_of sought) p is);
    }

module _ (nothing : NothingLaw) (names : NamesLaw) (listed : TouchedPathsLaw) (seen : SeenLaw) (unread : TouchedLaw) (changed : ChangedLaw) (found : FoundLaw) (written : Written) (old new : Store) (realm : Realm) (user : List ℕ) (sought : SearchSpec) (taken : IsTaken written old new) (exists : dataset_exists old.records sought.dataset ≡ true) where
  abbrev before : Sight
  before = sight_for realm old user sought

  abbrev after : Sight
  after = sight_for realm new user sought

  abbrev last : List Match
  last = matches_of new.records realm user sought

  abbrev datasets : List (List ℕ)
  datasets = datasets_of new.records (scope_of sought)

  abbrev is_looked_at : Path → Bool
  is_looked_at path = list_any (octets_eq path.dataset) datasets

  abbrev looked : List Path
  looked = filter is_looked_at (touched_paths written old.records new.records)

  abbrev told : Path → Name
  told = name_told sought.depth

  still : dataset_exists new.records sought.dataset ≡ true
  still = taken.sound.kept sought.dataset exists

  step : search.AreSoundWrites written old.records new.records
  step = record { paths = taken.paths; before = taken.sound.old_sound; after = taken.sound.new_sound; stays = taken.sound.kept }

  -- ---- touched paths

  touched_split : (p : Path) → is_touched written old.records new.records p ≡ true → IsSplit p
  unfolding is_touched
  touched_split p e = record {
    dataset = closed new.records p.dataset (first_so _ _ e);
    name = true_cases (is_reached written old.records old.records (chain_of old.records p.dataset false) p.name) _ (second_so _ _ e)
        (reached_name written old.records taken.formed old.records taken.sound.old_sound _ p.name)
        (reached_name written old.records taken.formed new.records taken.sound.new_sound _ p.name);
  }

  in_touched : (p : Path) → is_touched written old.records new.records p ≡ true → Contains (touched_paths written old.records new.records) p
  in_touched p e = Contains-from_any (tells_apart same_paths) p _ (listed.all written old.records new.records taken.paths p ∙ e)

  from_touched : (p : Path) → Contains (touched_paths written old.records new.records) p → is_touched written old.records new.records p ≡ true
  from_touched p k = sym (listed.all written old.records new.records taken.paths p) ∙ list_any-from_Contains (eq_by_cmp_equiv octets_total) p _ k

  -- ---- those that are looked at

  pub looked_split : (p : Path) → Contains looked p → IsSplit p
  looked_split p k = touched_split p (from_touched p (from_filter _ _ p k).0)

  pub looked_in : (p : Path) → Contains looked p → Contains datasets p.dataset
  looked_in p k = Contains-from_any same_name p.dataset datasets (from_filter is_looked_at (touched_paths written old.records new.records) p k).1

  pub alone : (p : Path) → Contains datasets p.dataset → IsIn sought.dataset sought.depth p
  alone p k e =
      let one : Contains (sought.dataset ∷ []) p.dataset = subst (λ depth. Contains (sought.dataset ∷ option_map_or (beneath new.records sought.dataset) depth []) p.dataset) e k in
      either (first_or sought.dataset p.dataset [] one) (λ same. sym same) (λ l. nowhere p.dataset l)

  pub looked_rise : IsAscending (each told looked)
  looked_rise =
      names_rise sought.dataset sought.depth looked (λ p k. alone p (looked_in p k))
      (paths_rise listed looked looked_split (AllPairs-filter (λ x y. by_octets x y ≡ Less) is_looked_at (touched_paths written old.records new.records) (listed.rises written old.records new.records).rises))

  -- ---- the changed ones are among them

  differs_touched : (p : Path) → tuple_of before sought p ≢ tuple_of after sought p → is_touched written old.records new.records p ≡ true
  differs_touched p n =
      elim (is_touched written old.records new.records p) as (λ b. is_touched written old.records new.records p ≡ b → b ≡ true) [
        | true ↦ λ e. refl
        | false ↦ λ e. absurd (n (unread.tuples written old.records new.records step realm user sought p e))
      ] refl

  looked_into : (p : Path) → Contains (changed_paths sought before after) p → Contains datasets p.dataset
  looked_into p k =
      either (Contains-append_cases before.paths _ p (from_filter _ _ p k).0)
      (λ l.
      let d = (seen.only old.records realm user (scope_of sought) p l).0 in
      (unread.datasets written old.records new.records step (scope_of sought) p.dataset (unread.only written old.records new.records step (scope_of sought) exists p.dataset d)).0 d)
      (λ l. (seen.only new.records realm user (scope_of sought) p (from_filter _ after.paths p l).0).0)

  changed_looked : (p : Path) → Contains (changed_paths sought before after) p → Contains looked p
  changed_looked p k =
      in_filter is_looked_at (touched_paths written old.records new.records) p
      (in_touched p (differs_touched p ((changed.exact sought before after p).0 k)))
      (list_any-from_Contains nat_list_eq_equiv p.dataset datasets (looked_into p k))

  covers : (name : Name) → is_among name (changed_names sought before after) ≡ true → is_among name (each told looked) ≡ true
  covers name e =
      let w = (changed.named sought before after name).0 (from_among (changed_names sought before after) name e) in
      among (each told looked) name (subst (λ n. Contains (each told looked) n) w.1.1 (in_map told looked w.0 (changed_looked w.0 w.1.0)))

  -- ---- what is made of each

  seen_in : (p : Path) → Contains after.paths p → Contains datasets p.dataset
  seen_in p k = (seen.only new.records realm user (scope_of sought) p k).0

  seen_split : (p : Path) → Contains after.paths p → IsSplit p
  seen_split p k = split_seen nothing names seen new realm user sought taken.sound.new_sound still p k

  found_seen : (p : Path) (m : Match) → tuple_of after sought p ≡ Some m → Contains after.paths p
  found_seen p m e = from_paths after.paths p (made_is (paths.is_among after.paths p) (holds sought.key None (after.answers p)) (match_of sought p (after.answers p) (stars_of (after.answers p).read (after.attributes p))) m e).0

  found_here : (p : Path) (m : Match) → Contains looked p → match_told last (told p) ≡ Some m → tuple_of after sought p ≡ Some m
  found_here p m k e =
      let w = found.name new realm user sought (told p) m e in
      let l = found_seen m.path m w.0 in
      let same : m.path ≡ p = told_apart sought.dataset sought.depth m.path p (alone m.path (seen_in m.path l)) (alone p (looked_in p k)) (seen_split m.path l) (looked_split p k) w.1.1 in
      subst (λ q. tuple_of after sought q ≡ Some m) same w.0

  named : (p : Path) → Contains looked p → tuple_of after sought p ≡ match_told last (told p)
  named p k = same_answers (tuple_of after sought p) (match_told last (told p))
      (λ m e. found.found new realm user sought p m taken.sound.new_sound still e)
      (λ m e. found_here p m k e)

  moves_are : (ps : List Path) → ((p : Path) → Contains ps p → tuple_of after sought p ≡ match_told last (told p)) → moves_of sought after ps ≡ moves_to (match_told last) (each told ps)
  moves_are [] h = refl
  moves_are (p ∷ ps) h = λ i. (told p, h p (Contains-here p ps) i) ∷ moves_are ps (λ q k. h q (Contains-there p q ps k)) i

pub touched_moves_law : NothingLaw → NamesLaw → TouchedPathsLaw → SeenLaw → TouchedLaw → ChangedLaw → FoundLaw → MovedLaw → TouchedMovesLaw
touched_moves_law nothing names listed seen unread changed found moved = record {
  list = λ written old new realm user context taken exists.
      let told = each (name_told context.sought.depth) (touched_for written old new context) in
      ap (λ ms. after_moves told_shape ms (matches_of old.records realm user context.sought)) (moves_are nothing names listed seen unread changed found written old new realm user context.sought taken exists _ (named nothing names listed seen unread changed found written old new realm user context.sought taken exists))
      ∙ (moved old new realm user context.enumerated context.sought told taken.sound exists (looked_rise nothing names listed seen unread changed found written old new realm user context.sought taken exists) (covers nothing names listed seen unread changed found written old new realm user context.sought taken exists)).0;
  told = λ written old new realm user context taken exists.
      let told = each (name_told context.sought.depth) (touched_for written old new context) in
      ap (λ ms. moves_notices told_shape context.enumerated ms (matches_of old.records realm user context.sought)) (moves_are nothing names listed seen unread changed found written old new realm user context.sought taken exists _ (named nothing names listed seen unread changed found written old new realm user context.sought taken exists))
      ∙ (moved old new realm user context.enumerated context.sought told taken.sound exists (looked_rise nothing names listed seen unread changed found written old new realm user context.sought taken exists) (covers nothing names listed seen unread changed found written old new realm user context.sought taken exists)).1;
}

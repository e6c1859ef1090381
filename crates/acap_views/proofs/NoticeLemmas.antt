-- Notices by mixed lists lead from the old list of a search to the new one.
use Rattle.std.proofs.Common.{◌≡◌, ℕ, Bool, true, false, not, Some, None, List, ◌++◌, refl, sym, ◌∙◌, ap, subst, map as each}
use Rattle.std.specs.List.{filter, Contains}
use Rattle.std.proofs.lemmas.List.Sorted.{Contains-permutation, IsPermutation-sym}
use Rattle.std.proofs.lemmas.List.Elements.{Contains-append_left, Contains-append_right}
use Rattle.acap_entries.specs.Datasets.{dataset_exists}
use Rattle.acap_entries.specs.Sound.{IsSoundStore}
use Rattle.acap_entries.specs.Store.{Store}
use Rattle.acap_entries.specs.declared.path.Path.{Path}
use Rattle.acap_moves.specs.Hits.{IsAscending, Name, is_among, IsDistinct, fresh}
use Rattle.acap_moves.specs.Hits as hits
use Rattle.acap_moves.specs.Moves.{moves_to, after_moves, moves_notices}
use Rattle.acap_moves.proofs.MoveLemmas.{moves}
use Rattle.acap_moves.proofs.Mixed.{notice_list}
use Rattle.acap_notices.specs.Holding.{holding, holding_after_all}
use Rattle.acap_rights.specs.declared.realm.Realm.{Realm}
use Rattle.acap_search.specs.Fresh.{Sight, sight_of, tuple_of, fresh_of, matches_of, full_path_lt, IsSameSight}
use Rattle.acap_search.specs.Fresh as paths
use Rattle.acap_search.specs.Keys.{holds}
use Rattle.acap_search.specs.Laws.{SightLaw}
use Rattle.acap_search.specs.Matches.{Match, match_lt}
use Rattle.acap_search.specs.Once.{OnceLaw}
use Rattle.acap_search.specs.Rows.{stars_of}
use Rattle.acap_search.specs.Tuples.{name_told, match_of}
use Rattle.acap_search.specs.Walks.{quest_of, hits_over}
use Rattle.acap_search.specs.declared.query.SearchSpec.{SearchSpec}
use Rattle.acap_search.proofs.FreshLemmas.{fresh_law}
use Rattle.acap_search.proofs.OrderLemmas.{match_weak}
use Rattle.acap_search.proofs.SeenLemmas.{in_map, in_filter}
use Rattle.acap_search.proofs.SortLemmas.{Rises, sorted_by_rises}
use Rattle.acap_search.proofs.TupleLemmas.{from_among, made_is}
use Rattle.acap_search.proofs.WalkLemmas.{fresh_is}
use Rattle.acap_search.proofs.OnceLemmas.{from_made, in_made}
use Rattle.acap_views.specs.Changing.{IsSoundStep, sight_for}
use Rattle.acap_views.specs.Current.{rows}
use Rattle.acap_views.specs.Laws.{FoundLaw, MovedLaw, NoticeLaw}
use Rattle.acap_views.specs.Notices.{ascending, told_shape, names_told, match_told, names_of_both, same_tuple, paths_of_both, changed_paths, changed_names, list_notices, event_notices}
use Rattle.acap_views.proofs.SameLemmas.{same_exact}
use Rattle.acap_views.proofs.ListLemmas.{among_ascending, ascends, among, distinct}
use Rattle.acap_views.proofs.ToldLemmas.{told_lawful, told_is, told_at, told_of_names, InTurn, in_turn, both_distinct, old_supports, new_supports, list_over}
use Rattle.acap_views.proofs.MovingLemmas.{same_answers}

-- ---- tuples

made_at : (sight : Sight) (sought : SearchSpec) (p : Path) (m : Match) → tuple_of sight sought p ≡ Some m → (paths.is_among sight.paths p ≡ true) × ((m.path ≡ p) × (m.row.name ≡ name_told sought.depth p))
made_at sight sought p m e =
    let made = made_is (paths.is_among sight.paths p) (holds sought.key None (sight.answers p)) (match_of sought p (sight.answers p) (stars_of (sight.answers p).read (sight.attributes p))) m e in
    (made.0, (ap (λ (m : Match). m.path) (sym made.1.1), ap (λ (m : Match). m.row.name) (sym made.1.1)))

module _ (realm : Realm) (user : List ℕ) (sought : SearchSpec) (store : Store) where
  abbrev sight : Sight
  sight = sight_for realm store user sought

  abbrev found : List Match
  found = matches_of store.records realm user sought

  -- what is found is what is made of a path
  pub made : (m : Match) → Contains found m → tuple_of sight sought m.path ≡ Some m
  made m k =
      let all = fresh_law.all store.records realm user sought in
      let w = from_made (tuple_of sight sought) sight.paths m (Contains-permutation found _ m (IsPermutation-sym _ found all) k) in
      subst (λ p. tuple_of sight sought p ≡ Some m) (sym (made_at sight sought w.0 m w.1.1).1.0) w.1.1

  pub made_in : (p : Path) (m : Match) → tuple_of sight sought p ≡ Some m → Contains found m
  made_in p m e =
      let all = fresh_law.all store.records realm user sought in
      Contains-permutation _ found m all (in_made (tuple_of sight sought) sight.paths p m (from_among sight.paths p (made_at sight sought p m e).0) e)

  pub name_is : (m : Match) → Contains found m → m.row.name ≡ name_told sought.depth m.path
  name_is m k = (made_at sight sought m.path m (made m k)).1.1

  module _ (once : OnceLaw) (sound : IsSoundStore store.records) (exists : dataset_exists store.records sought.dataset ≡ true) where
    pub names_once : IsDistinct (names_told found)
    names_once = distinct (names_told found) (once.names store.records realm user sought sound exists)

    pub found_in_turn : InTurn found
    found_in_turn =
        in_turn found
        (subst (Rises match_lt match_weak) (fresh_is store.records realm user sought) (sorted_by_rises match_lt match_weak (hits_over (quest_of store.records realm user sought))))
        (λ a b k l e. name_is a k ∙ (ap (name_told sought.depth) (once.ties store.records realm user sought sound exists a b k l e) ∙ sym (name_is b l)))

-- ---- what has changed

nothing : (old new : Sight) (sought : SearchSpec) (p : Path) → paths.is_among old.paths p ≡ false → paths.is_among new.paths p ≡ false → same_tuple (tuple_of old sought p) (tuple_of new sought p) ≡ true
nothing old new sought p k l = rw (k, l) refl

pub in_both : (old new : Sight) (sought : SearchSpec) (p : Path) → same_tuple (tuple_of old sought p) (tuple_of new sought p) ≡ false → Contains (paths_of_both old new) p
in_both old new sought p e =
    elim (paths.is_among old.paths p) as (λ b. paths.is_among old.paths p ≡ b → Contains (paths_of_both old new) p) [
      | true ↦ λ k. Contains-append_left old.paths _ p (from_among old.paths p k)
      | false ↦ λ k. elim (paths.is_among new.paths p) as (λ b. paths.is_among new.paths p ≡ b → Contains (paths_of_both old new) p) [
        | true ↦ λ l. Contains-append_right old.paths _ p (in_filter (λ path. not (paths.is_among old.paths path)) new.paths p (from_among new.paths p l) (ap not k))
        | false ↦ λ l. absurd (cc (e, nothing old new sought p k l))
      ] refl
    ] refl

-- a name that isn't among the changed ones is that of no path whose tuple differs
pub unchanged : (old new : Sight) (sought : SearchSpec) (p : Path) → is_among (name_told sought.depth p) (changed_names sought old new) ≡ false → tuple_of old sought p ≡ tuple_of new sought p
unchanged old new sought p e =
    same_exact _ _ (elim (same_tuple (tuple_of old sought p) (tuple_of new sought p)) as (λ b. same_tuple (tuple_of old sought p) (tuple_of new sought p) ≡ b → b ≡ true) [
      | true ↦ λ t. refl
      | false ↦ λ t.
          let differs : Path → Bool = λ path. not (same_tuple (tuple_of old sought path) (tuple_of new sought path)) in
          let told : List Name = each (name_told sought.depth) (changed_paths sought old new) in
          let kept = in_filter differs (paths_of_both old new) p (in_both old new sought p t) (ap not t) in
          absurd (cc (e, among_ascending (name_told sought.depth p) told ∙ among told _ (in_map (name_told sought.depth) (changed_paths sought old new) p kept)))
    ] refl)

module _ (once : OnceLaw) (realm : Realm) (user : List ℕ) (sought : SearchSpec) (old new : Store) (sound : IsSoundStep old new) (exists : dataset_exists old.records sought.dataset ≡ true) where
  abbrev before : Sight
  before = sight_for realm old user sought

  abbrev after : Sight
  after = sight_for realm new user sought

  abbrev first : List Match
  first = matches_of old.records realm user sought

  abbrev last : List Match
  last = matches_of new.records realm user sought

  first_once : IsDistinct (names_told first)
  first_once = names_once realm user sought old once sound.old_sound exists

  last_once : IsDistinct (names_told last)
  last_once = names_once realm user sought new once sound.new_sound (sound.kept sought.dataset exists)

  -- a match that is there before is there after, and the other way round
  kept_on : (name : Name) (m : Match) → is_among name (changed_names sought before after) ≡ false → match_told first name ≡ Some m → match_told last name ≡ Some m
  kept_on name m n e =
      let w = told_is first name m e in
      let told : name ≡ name_told sought.depth m.path = sym w.1 ∙ name_is realm user sought old m w.0 in
      let same = unchanged before after sought m.path (ap (λ x. is_among x (changed_names sought before after)) (sym told) ∙ n) in
      let there_too = made_in realm user sought new m.path m (sym same ∙ made realm user sought old m w.0) in
      ap (match_told last) (sym w.1) ∙ told_at last m last_once there_too

  kept_back : (name : Name) (m : Match) → is_among name (changed_names sought before after) ≡ false → match_told last name ≡ Some m → match_told first name ≡ Some m
  kept_back name m n e =
      let w = told_is last name m e in
      let told : name ≡ name_told sought.depth m.path = sym w.1 ∙ name_is realm user sought new m w.0 in
      let same = unchanged before after sought m.path (ap (λ x. is_among x (changed_names sought before after)) (sym told) ∙ n) in
      let there_too = made_in realm user sought old m.path m (same ∙ made realm user sought new m w.0) in
      ap (match_told first) (sym w.1) ∙ told_at first m first_once there_too

  pub kept : (name : Name) → is_among name (changed_names sought before after) ≡ false → match_told first name ≡ match_told last name
  kept name n = same_answers (match_told first name) (match_told last name) (λ m e. kept_on name m n e) (λ m e. kept_back name m n e)

  pub first_is : fresh told_shape (match_told first) (names_of_both first last) ≡ first
  first_is =
      list_over first (names_of_both first last) (found_in_turn realm user sought old once sound.old_sound exists) first_once
      (both_distinct first last first_once last_once) (old_supports first last)

  pub last_is : fresh told_shape (match_told last) (names_of_both first last) ≡ last
  last_is =
      list_over last (names_of_both first last) (found_in_turn realm user sought new once sound.new_sound (sound.kept sought.dataset exists)) last_once
      (both_distinct first last first_once last_once) (new_supports first last)

  told_rows : (enumerated : Bool) →
      holding_after_all (holding enumerated (rows (fresh told_shape (match_told first) (names_of_both first last)))) (event_notices enumerated sought before after)
      ≡ Some (holding enumerated (rows (fresh told_shape (match_told last) (names_of_both first last))))
  unfolding hits.rows
  told_rows enumerated =
      notice_list told_shape told_lawful enumerated (match_told first) (match_told last) (names_of_both first last) (changed_names sought before after)
      (both_distinct first last first_once last_once) (told_of_names first) (told_of_names last) (record { same_elsewhere = λ name m n. kept name n })

  pub leads : (enumerated : Bool) → holding_after_all (holding enumerated (rows first)) (event_notices enumerated sought before after) ≡ Some (holding enumerated (rows last))
  leads enumerated =
      ap (λ (ms : List Match). holding_after_all (holding enumerated (rows ms)) (event_notices enumerated sought before after)) (sym first_is)
      ∙ (told_rows enumerated ∙ ap (λ (ms : List Match). Some (holding enumerated (rows ms))) last_is)

  pub moved : (enumerated : Bool) (touched : List Name) → IsAscending touched
      → ((name : Name) → is_among name (changed_names sought before after) ≡ true → is_among name touched ≡ true)
      → (after_moves told_shape (moves_to (match_told last) touched) first ≡ last)
      × (moves_notices told_shape enumerated (moves_to (match_told last) touched) first ≡ event_notices enumerated sought before after)
  moved enumerated touched rising covers =
      let m =
      moves told_shape told_lawful enumerated (match_told first) (match_told last) (names_of_both first last) (changed_names sought before after) touched
      (both_distinct first last first_once last_once) (told_of_names first) (told_of_names last) (new_supports first last) kept
      (ascends (each (name_told sought.depth) (changed_paths sought before after))) rising covers in (
        ap (after_moves told_shape (moves_to (match_told last) touched)) (sym first_is) ∙ (m.0 ∙ last_is),
        ap (moves_notices told_shape enumerated (moves_to (match_told last) touched)) (sym first_is) ∙ m.1,
      )

pub moved_law : OnceLaw → MovedLaw
moved_law once old new realm user enumerated sought touched sound exists rising covers = moved once realm user sought old new sound exists enumerated touched rising covers

pub found_law : OnceLaw → FoundLaw
found_law once = record {
  name = λ store realm user sought name m e.
      let w = told_is (matches_of store.records realm user sought) name m e in
      (made realm user sought store m w.0, (w.1, sym (name_is realm user sought store m w.0) ∙ w.1));
  found = λ store realm user sought path m sound exists e.
      let told = made_at (sight_for realm store user sought) sought path m e in
      ap (match_told (matches_of store.records realm user sought)) (sym told.1.1)
      ∙ told_at (matches_of store.records realm user sought) m (names_once realm user sought store once sound exists) (made_in realm user sought store path m e);
}

pub notice_law : SightLaw → OnceLaw → NoticeLaw
notice_law sights once = record {
  same = λ old new first second realm other user one enumerated sought before after.
      let t = sights.tuples old.records first.records realm other user one sought before in
      let u = sights.tuples new.records second.records realm other user one sought after in
      let f = sights.fresh old.records first.records realm other user one sought before in
      let g = sights.fresh new.records second.records realm other user one sought after in
      λ i. list_notices enumerated (f i) (g i)
      (ascending (each (name_told sought.depth)
      (filter (λ path. not (same_tuple (t path i) (u path i))) (before.paths i ++ filter (λ path. not (paths.is_among (before.paths i) path)) (after.paths i)))));
  leads = λ old new realm user enumerated sought sound exists. leads once realm user sought old new sound exists enumerated;
}

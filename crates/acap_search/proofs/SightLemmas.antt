-- Equal sights give equal answers to a search.
use Rattle.std.proofs.Common.{◌≡◌, ℕ, Option, None, List, refl, sym, ◌∙◌, ap, Bool, true, false, cond}
use Rattle.std.specs.FinMap as map
use Rattle.std.specs.Option.{option_and_then}
use Rattle.std.specs.List.{filter_map}
use Rattle.acap_entries.specs.Store.{Stored}
use Rattle.acap_rights.specs.declared.realm.Realm.{Realm}
use Rattle.acap_entries.specs.declared.path.Path.{Path}
use Rattle.acap_inherit.specs.Chains.{chain_of}
use Rattle.acap_inherit.specs.Laws.{NothingLaw}
use Rattle.acap_search.specs.Fresh.{Sight, IsSameAnswers, IsSameSight, sight_of, is_among, tuple_of}
use Rattle.acap_search.specs.Laws.{SightLaw, StarLaw, AclLaw}
use Rattle.acap_search.specs.Matches.{ordered_by}
use Rattle.acap_search.specs.Rows.{stars_of}
use Rattle.acap_search.specs.Scopes.{Scope, scope_of}
use Rattle.acap_search.specs.Sight.{Answers, answers_at}
use Rattle.acap_search.specs.Tuples.{tuple_for}
use Rattle.acap_search.specs.declared.query.SearchSpec.{SearchSpec}
use Rattle.acap_search.proofs.TupleLemmas.{tuple_at, from_among}
use Rattle.acap_search.proofs.Stars.{Covers, covers, same_stars, get_stars_of}

abbrev SameTuples : Type 0
SameTuples = (old new : Stored) (realm other : Realm) (user second : List ℕ) (sought : SearchSpec)
    → IsSameSight (sight_of old realm user (scope_of sought)) (sight_of new other second (scope_of sought))
    → (path : Path) → tuple_of (sight_of old realm user (scope_of sought)) sought path ≡ tuple_of (sight_of new other second (scope_of sought)) sought path

pub tuple_same : (sought : SearchSpec) (path : Path) (a b : Answers) (names more : List (List ℕ)) → IsSameAnswers a b → Covers a.read names → Covers b.read more → tuple_for sought None path a (stars_of a.read names) ≡ tuple_for sought None path b (stars_of b.read more)
tuple_same sought path a b names more s g h =
    let answers : a ≡ b = λ i. record { read = λ q. s.read q i; test = λ q. s.test q i; acl = λ q. s.acl q i; rights = λ q. s.rights q i } in
    let read : a.read ≡ b.read = λ i q. s.read q i in
    let covered : Covers a.read more = record { others = λ q e. s.read q ∙ h.others q e } in
    let tried : stars_of a.read names ≡ stars_of a.read more = λ i front. same_stars a.read names more front g covered i in
    let stars : stars_of a.read names ≡ stars_of b.read more = tried ∙ ap (λ r. stars_of r more) read in
    λ i. tuple_for sought None path (answers i) (stars i)

pub sight_law : NothingLaw → SightLaw
sight_law nothing =
    let tuples : SameTuples = λ old new realm other user second sought s path.
    let scope : Scope = scope_of sought in
    let a : Sight = sight_of old realm user scope in
    let b : Sight = sight_of new other second scope in
    let met : is_among a.paths path ≡ is_among b.paths path = ap (λ paths. is_among paths path) s.paths in
    elim (is_among a.paths path) as (λ t. is_among a.paths path ≡ t → tuple_of a sought path ≡ tuple_of b sought path) [
      | true ↦ λ e.
          ap (λ t. cond t (tuple_at a sought path) None) e
          ∙ (tuple_same sought path (a.answers path) (b.answers path) (a.attributes path) (b.attributes path) (s.answers path (from_among a.paths path e))
          (covers nothing old realm user path.dataset (chain_of old path.dataset scope.no_inherit) path.name) (covers nothing new other second path.dataset (chain_of new path.dataset scope.no_inherit) path.name)
          ∙ ap (λ t. cond t (tuple_at b sought path) None) (sym e ∙ met))
      | false ↦ λ e. ap (λ t. cond t (tuple_at a sought path) None) e ∙ ap (λ t. cond t (tuple_at b sought path) None) (sym e ∙ met)
    ] refl in
    record {
      tuples = tuples;
      fresh = λ old new realm other user second sought s i.
          ordered_by sought.sort (filter_map (λ path. tuples old new realm other user second sought s path i) (s.paths i));
    }

pub star_law : NothingLaw → StarLaw
star_law nothing records realm user dataset chain name front attribute =
    get_stars_of (answers_at records realm user dataset chain name).read _ front attribute (covers nothing records realm user dataset chain name)

none_either_way : {X : Type 0} (b : Bool) (o : Option X) → o ≡ None → cond b o None ≡ None
none_either_way true o h = h
none_either_way false o h = refl

pub acl_law : AclLaw
acl_law records realm user dataset chain name attribute h = none_either_way _ _ (ap (λ o. option_and_then (λ entry. map.get entry.acls attribute) o) h)

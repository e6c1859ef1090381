-- What a search over a context says, by what is found among its paths.
use Rattle.std.proofs.Common.{◌≡◌, ℕ, List, [], ◌∷◌, Bool, false, Option, Some, None, Result, Ok, Err, IfOk, OnOk, Bor, refl, sym, subst, ap, ◌∙◌, map as each}
use Rattle.acap_commands.specs.declared.search_modifiers.Limit.{Limit}
use Rattle.acap_commands.specs.declared.said.Said.{Said}
use Rattle.acap_commands.specs.declared.said.Said.TheVariants as said
use Rattle.acap_commands.specs.declared.said.SearchReply.{SearchReply}
use Rattle.acap_entries.specs.Store.{Store, Stored}
use Rattle.acap_entries.specs.declared.path.Path.{Path}
use Rattle.acap_machine.specs.Searching.{found_of, found_with, found_unless, refused_as, is_search_memory, searched_from, shown_within}
use Rattle.acap_machine.proofs.FoundLemmas.{found_is}
use Rattle.acap_rights.specs.declared.realm.Realm.{Realm}
use Rattle.acap_search.specs.Cutting.{IsExcerpt}
use Rattle.acap_search.specs.Matches.{Match}
use Rattle.acap_search.specs.Within.{Context, IsWithin, context_of, matches_within, refusal_within}
use Rattle.acap_search.specs.declared.query.Query.{Query}
use Rattle.acap_search.specs.declared.refusal.SearchRefusal.{SearchRefusal}
use Rattle.acap_search.specs.declared.refusal.SearchRefusal.TheVariants as refusal
use Rattle.acap_search.specs.declared.answer.SearchAnswer.{SearchAnswer}
use Rattle.acap_views.specs.Ranging.{Ranged}

-- the paths of hits that are lent are those of the list

paths_of : (hits : List (Bor Match)) → each (λ hit. hit.now.path) hits ≡ each (λ found. found.path) (each (λ hit. hit.now) hits)
paths_of [] = refl
paths_of (hit ∷ hits) = ap (λ ps. hit.now.path ∷ ps) (paths_of hits)

pub paths_are : (hits : List (Bor Match)) (shown : List Match) → each (λ hit. hit.now) hits ≡ shown → each (λ hit. hit.now.path) hits ≡ each (λ found. found.path) shown
paths_are hits shown e = paths_of hits ∙ ap (each (λ found. found.path)) e

pub found_from : (s : Store) (realm : Realm) (user : List ℕ) (from : Ranged) (query wanted : Query) (limit : Option Limit) (paths : List Path) (excerpt : SearchAnswer) (found : SearchReply)
    → query ≡ wanted → paths ≡ each (λ f. f.path) from.shown → IsWithin s.records realm user query (context_of paths from.told from.enumerated) (IsExcerpt limit) (Ok excerpt)
    → found ≡ found_with s.last query.sought excerpt.rows excerpt.total → said.Searched found ≡ searched_from s realm user from wanted limit
unfolding searched_from
found_from s realm user from query wanted limit paths excerpt found query_is paths_is answer found_eq =
    let context_is : context_of paths from.told from.enumerated ≡ shown_within from = ap (λ p. context_of p from.told from.enumerated) paths_is in
    let none = subst (λ (c : Context). refusal_within s.records realm user query c ≡ None) context_is answer.0 in
    let told = found_eq ∙ found_is s.last query.sought limit (matches_within s.records realm user query.sought paths) excerpt.rows excerpt.total answer.1.0 answer.1.1
    ∙ ap (λ (c : Context). found_of s.last query.sought limit (matches_within s.records realm user query.sought c.paths)) context_is in
    ap said.Searched told
    ∙ sym (ap (λ r. found_unless query.sought.dataset r (found_of s.last query.sought limit (matches_within s.records realm user query.sought (shown_within from).paths))) none)
    ∙ ap (λ q. searched_from s realm user from q limit) query_is

-- ---- where it is refused

refused_by : {X : Type 0} (records : Stored) (realm : Realm) (user : List ℕ) (query : Query) (context : Context) (holds : X → List Match → Type 0) (r : SearchRefusal) → is_search_memory r ≡ false
    → IsWithin records realm user query context holds (Err r) → refusal_within records realm user query context ≡ Some r
refused_by records realm user query context holds refusal.RangeHere e f = f
refused_by records realm user query context holds refusal.NoExist e f = f
refused_by records realm user query context holds refusal.TooOld e f = f
refused_by records realm user query context holds refusal.WayTooMany e f = f
refused_by records realm user query context holds refusal.Memory e f = absurd cc

pub refused_from : (s : Store) (realm : Realm) (user : List ℕ) (from : Ranged) (query wanted : Query) (limit : Option Limit) (paths : List Path) (r : SearchRefusal)
    → query ≡ wanted → paths ≡ each (λ f. f.path) from.shown → IsWithin s.records realm user query (context_of paths from.told from.enumerated) (IsExcerpt limit) (Err r)
    → is_search_memory r ≡ false → said.Refused (refused_as query.sought.dataset r) ≡ searched_from s realm user from wanted limit
unfolding searched_from
refused_from s realm user from query wanted limit paths r query_is paths_is answer other =
    let context_is : context_of paths from.told from.enumerated ≡ shown_within from = ap (λ p. context_of p from.told from.enumerated) paths_is in
    let because = subst (λ (c : Context). refusal_within s.records realm user query c ≡ Some r) context_is (refused_by s.records realm user query _ (IsExcerpt limit) r other answer) in
    sym (ap (λ x. found_unless query.sought.dataset x (found_of s.last query.sought limit (matches_within s.records realm user query.sought (shown_within from).paths))) because)
    ∙ ap (λ q. searched_from s realm user from q limit) query_is

pub words_for : {E : Type 0} (r : Result Said E) (x y : Said) (b : Bool) → IfOk r (λ w. w ≡ x) → OnOk r (b ≡ false) → (b ≡ false → x ≡ y) → IfOk r (λ w. w ≡ y)
words_for (Ok w) x y b p q f = p ∙ f q
words_for (Err e) x y b p q f = tt

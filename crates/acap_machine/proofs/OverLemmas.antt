-- What a search over a dataset comes to, by what is found there.
use Rattle.std.proofs.Common.{◌≡◌, ℕ, List, false, Option, Some, None, Err, refl, sym, subst, ap, ◌∙◌}
use Rattle.acap_commands.specs.declared.search_modifiers.MakeContext.{MakeContext}
use Rattle.acap_commands.specs.declared.said.Said.{Said}
use Rattle.acap_commands.specs.declared.said.Said.TheVariants as said
use Rattle.acap_ordmap.specs.Ranks.{Ascending}
use Rattle.acap_entries.specs.Store.{Stored}
use Rattle.acap_machine.specs.Changing.{IsKept, IsSound, IsOpenable}
use Rattle.acap_machine.specs.Machine.{Machine, Roomed, user_at}
use Rattle.acap_machine.specs.Readied.{Pending, pending_of, IsReady}
use Rattle.acap_machine.specs.Searching.{found_of, found_or, found_unless, kept_if, refused_as, is_search_memory, searched_alone, searched_over}
use Rattle.acap_machine.specs.Stepping.{plain, answer_at, reply_of}
use Rattle.acap_machine.specs.declared.effect.Effect.TheVariants as effect
use Rattle.acap_machine.proofs.Following.{is_at, there}
use Rattle.acap_machine.proofs.ReadyLemmas.{ready_for}
use Rattle.acap_rights.specs.declared.realm.Realm.{Realm}
use Rattle.acap_search.specs.ContextLaws.{HitLaw}
use Rattle.acap_search.specs.Fresh.{IsAnswer, matches_of, refusal_of}
use Rattle.acap_search.specs.Matches.{Match, match_cmp}
use Rattle.acap_search.specs.declared.query.SearchRequest.{SearchRequest}
use Rattle.acap_search.specs.declared.query.Query.{Query}
use Rattle.acap_search.specs.declared.refusal.SearchRefusal.{SearchRefusal}
use Rattle.acap_search.specs.declared.refusal.SearchRefusal.TheVariants as refusal
use Rattle.acap_views.specs.Laws as views
use Rattle.acap_views.specs.Opening.{with_context}

-- ---- where no context is made

alone_or : (m : Machine) (seat : ℕ) (a : SearchRequest) (r : Option SearchRefusal) (matches : List Match) → a.make_context ≡ None
    → found_or m seat a r matches ≡ (found_unless a.query.sought.dataset r (found_of m.store.last a.query.sought a.limit matches), m)
alone_or m seat a (Some refusal) matches e = refl
alone_or m seat a None matches e = ap (λ make. kept_if m seat make a.query.sought a.limit matches) e

over_alone : (m : Machine) (seat : ℕ) (user : List ℕ) (a : SearchRequest) → a.make_context ≡ None → searched_over m seat user a ≡ (searched_alone m user a.query a.limit, m)
unfolding searched_over
over_alone m seat user a e = alone_or m seat a _ _ e

pub alone_ready : (s : Roomed) (seat : ℕ) (user : List ℕ) (a : SearchRequest) (words : Said) (pending : Pending) → user_at s.machine seat ≡ Some user → a.make_context ≡ None
    → words ≡ searched_alone s.machine user a.query a.limit → pending ≡ pending_of seat effect.Nothing (plain words) 0 → IsKept s.machine s.kept.index.0
    → IsReady s (answer_at s.machine seat (λ m u. searched_over m seat u a)) pending s
alone_ready s seat user a words pending at none words_are pending_is kept =
    ready_for s s seat (λ u. reply_of (searched_over s.machine seat u a)) user pending effect.Nothing words at pending_is
    (ap reply_of (over_alone s.machine seat user a none) ∙ ap (λ w. (plain w, s.machine)) (sym words_are)) refl refl tt kept

-- ---- where it is refused

refused_is : {X : Type 0} (records : Stored) (realm : Realm) (user : List ℕ) (query : Query) (holds : X → List Match → Type 0) (r : SearchRefusal) → is_search_memory r ≡ false
    → IsAnswer records realm user query holds (Err r) → refusal_of records realm user query ≡ Some r
refused_is records realm user query holds refusal.RangeHere e f = f
refused_is records realm user query holds refusal.NoExist e f = f
refused_is records realm user query holds refusal.TooOld e f = f
refused_is records realm user query holds refusal.WayTooMany e f = f
refused_is records realm user query holds refusal.Memory e f = absurd cc

over_refused : (m : Machine) (seat : ℕ) (user : List ℕ) (a : SearchRequest) (r : SearchRefusal) → refusal_of m.store.records m.realm user a.query ≡ Some r
    → searched_over m seat user a ≡ (said.Refused (refused_as a.query.sought.dataset r), m)
unfolding searched_over
over_refused m seat user a r e = ap (λ x. found_or m seat a x (matches_of m.store.records m.realm user a.query.sought)) e

pub refused_ready : {X : Type 0} (s : Roomed) (seat : ℕ) (user : List ℕ) (a : SearchRequest) (holds : X → List Match → Type 0) (r : SearchRefusal) (words : Said) (pending : Pending)
    → user_at s.machine seat ≡ Some user → IsAnswer s.machine.store.records s.machine.realm user a.query holds (Err r) → is_search_memory r ≡ false
    → words ≡ said.Refused (refused_as a.query.sought.dataset r) → pending ≡ pending_of seat effect.Nothing (plain words) 0 → IsKept s.machine s.kept.index.0
    → IsReady s (answer_at s.machine seat (λ m u. searched_over m seat u a)) pending s
refused_ready s seat user a holds r words pending at answer other words_are pending_is kept =
    let m = s.machine in
    let e = refused_is m.store.records m.realm user a.query holds r other answer in
    ready_for s s seat (λ u. reply_of (searched_over m seat u a)) user pending effect.Nothing words at pending_is
    (ap reply_of (over_refused m seat user a r e) ∙ ap (λ w. (plain w, m)) (sym words_are)) refl refl tt kept

-- ---- where a context is made

pub in_order : (law : HitLaw) (m : Machine) (user : List ℕ) (query : Query) (hits : List Match) → IsSound m → refusal_of m.store.records m.realm user query ≡ None
    → hits ≡ matches_of m.store.records m.realm user query.sought → Ascending match_cmp hits
in_order law m user query hits sound none are =
    subst (λ h. Ascending match_cmp h) (sym are) (law.ascend m.store.records m.realm user query.sought sound.store (there m user query none))

pub openable : (law : views.CurrentLaw) (m : Machine) (seat : ℕ) (user : List ℕ) (make : MakeContext) (query : Query) (hits : List Match) → IsSound m → user_at m seat ≡ Some user
    → refusal_of m.store.records m.realm user query ≡ None → hits ≡ matches_of m.store.records m.realm user query.sought → IsOpenable m seat make query.sought hits
openable law m seat user make query hits sound at none are new e =
    law.opened m.store m.realm m.seats new seat make query.sought user m.store.last sound.store (there m user query none) (is_at m seat user at)
    (sym (ap (λ h. with_context m.seats seat make query.sought h m.store.last) are) ∙ e) sound.current

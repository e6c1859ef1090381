-- Hits that are sought one after the other.
use Rattle.std.proofs.Common.{◌≡◌, true, false, cond, Option, Some, None, List, [], ◌∷◌, refl, sym, ◌∙◌, ap, subst}
use Rattle.std.specs.Borrow.{Bor}
use Rattle.std.specs.List.{find, Contains}
use Rattle.std.specs.Ordering.{eq_by_cmp, is_eq}
use Rattle.acap_ordmap.specs.Ranks.{Ascending, item_at}
use Rattle.acap_ordmap.proofs.Logic.{Contains-here, Contains-there, Equal_from_is_eq}
use Rattle.acap_search.specs.Matches.{Match, match_cmp}
use Rattle.acap_search.specs.Totals.{match_total}
use Rattle.acap_search.proofs.SeenLemmas.{first_or, nowhere, either}
use Rattle.acap_views.specs.HitCursors.{AreAmong, matches_left}
use Rattle.acap_views.proofs.UpdateLemmas.{Rises, rises}

-- those after the first
pub others_among : (matches : List Match) (next : Option (Bor Match)) (others : List Match) → AreAmong matches (matches_left next others) → AreAmong matches others
others_among matches None others h = h
others_among matches (Some m) others h = h.1

-- the first of them
pub first_among : (matches : List Match) (next : Option (Bor Match)) (others : List Match) (first : Bor Match) → next ≡ Some first → AreAmong matches (matches_left next others) → Contains matches first.now
first_among matches None others first e h = absurd (cc (e))
first_among matches (Some m) others first e h = let same : m ≡ first = cc (e) in subst (λ (x : Bor Match). Contains matches x.now) same h.0

among_more : (m : Match) (matches others : List Match) → AreAmong matches others → AreAmong (m ∷ matches) others
among_more m matches [] h = tt
among_more m matches (x ∷ xs) h = (Contains-there m x matches h.0, among_more m matches xs h.1)

pub all_among : (matches : List Match) → AreAmong matches matches
all_among [] = tt
all_among (m ∷ ms) = (Contains-here m ms, among_more m ms ms (all_among ms))

-- a match of the list that ties is the one that is found
tied_there : (old x : Match) (hits : List Match) → Rises hits → Contains hits x → eq_by_cmp match_cmp old x ≡ true → find (eq_by_cmp match_cmp old) hits ≡ Some x
tied_there old x [] r k e = nowhere x k
tied_there old x (h ∷ hs) r k e =
    either (first_or h x hs k)
    (λ same. ap (λ y. cond (eq_by_cmp match_cmp old y) (Some y) (find (eq_by_cmp match_cmp old) hs)) same ∙ ap (λ b. cond b (Some x) (find (eq_by_cmp match_cmp old) hs)) e)
    (λ l. elim (eq_by_cmp match_cmp old h) as (λ b. eq_by_cmp match_cmp old h ≡ b → cond b (Some h) (find (eq_by_cmp match_cmp old) hs) ≡ Some x) [
      | true ↦ λ t. cc (sym e ∙ ap is_eq (match_total.congr old h x (Equal_from_is_eq _ t) ∙ r.0 x l))
      | false ↦ λ t. tied_there old x hs r.1 l e
    ] refl)

pub found_there : (old x : Match) (hits : List Match) → Ascending match_cmp hits → Contains hits x → eq_by_cmp match_cmp old x ≡ true → Some x ≡ item_at match_cmp old hits
unfolding item_at
found_there old x hits a k e = sym (tied_there old x hits (rises hits a) k e)

-- How far octets lead, one after the other.
use Rattle.std.proofs.Common.{◌≡◌, ℕ, ◌+◌, ◌-◌, ◌<◌, ◌≤◌, List, [], ◌∷◌, ◌++◌, length, refl, ap, ◌∙◌, arith, subst}
use Rattle.std.proofs.lemmas.Bool.{lt-ltb, le-ltb}
use Rattle.acap_grammar.specs.Lines.{line_of}
use Rattle.acap_grammar.specs.Listening.{Client, Place, Marked, Lost, heard}
use Rattle.acap_client.specs.Data.{data_of}
use Rattle.acap_client.specs.Drafting.{IsDraft, client_of, place_of}
use Rattle.acap_client.specs.declared.place.Place as places
use Rattle.acap_client.specs.declared.place.Place.TheVariants as place
use Rattle.acap_client.specs.Hearing.{Fits, Exceeds, GoesOn, IsWhole, IsLost, IsTooLong}
use Rattle.acap_client.specs.Reading.{First, Whole, Astray, TooLong, judged_by, judged, first_from}
use Rattle.acap_client.specs.Advancing.{Leads, Heard}
use Rattle.acap_client.specs.Advancing as advancing
use Rattle.acap_client.specs.declared.draft.Draft.{Draft}

-- ---- what an octet comes to

not_lost : (place : places.Place) (octets : List ℕ) → place_of place octets ≡ Lost → ⊥
not_lost place.Between octets e = cc
not_lost place.Fresh octets e = cc
not_lost place.Opened octets e = cc
not_lost place.Ended octets e = cc
not_lost place.InWord octets e = cc
not_lost place.InQuotes octets e = cc
not_lost place.Escaping octets e = cc
not_lost place.Marking octets e = cc
not_lost (place.Marked count) octets e = cc
not_lost (place.Opening count) octets e = cc
not_lost (place.Taking left) octets e = cc
not_lost place.Returned octets e = cc

fits_goes : (limit at : ℕ) (at_place : Place) (later : First) → at ≤ limit → Fits (limit - at) at_place → (at_place ≡ Lost → ⊥) → judged_by limit at [] at_place later ≡ later
fits_goes limit at (Marked count) later within fits going = rw (le-ltb limit (at + count) (omega arith)) refl
fits_goes limit at Lost later within fits going = absurd (going refl)
fits_goes limit at _ later within fits going = refl

exceeds_ends : (limit at : ℕ) (at_place : Place) (later : First) → at ≤ limit → Exceeds (limit - at) at_place → judged_by limit at [] at_place later ≡ TooLong
exceeds_ends limit at (Marked count) later within over = rw (lt-ltb limit (at + count) (omega arith)) refl
exceeds_ends limit at _ later within over = absurd over

goes : (limit at : ℕ) (now : Client) (new : Draft) (later : First) → at ≤ limit → GoesOn (limit - at) now new → judged limit at now later ≡ later
goes limit at now new later within g =
    let fits : Fits (limit - at) (client_of new).place = subst (λ (s : Client). Fits (limit - at) s.place) g.same g.fits in
    rw g.same (fits_goes limit at (client_of new).place later within fits (not_lost new.place new.word.items))

lost : (limit at : ℕ) (now : Client) (later : First) → IsLost now → judged limit at now later ≡ Astray
lost limit at now later l = rw (l.none, l.place) refl

over : (limit at : ℕ) (now : Client) (later : First) → at ≤ limit → IsTooLong (limit - at) now → judged limit at now later ≡ TooLong
over limit at now later within l = rw l.none (exceeds_ends limit at now.place later within l.place)

whole : (limit at : ℕ) (now : Client) (new : Draft) (later : First) → IsWhole now new → judged limit at now later ≡ Whole (line_of (data_of new.tokens.items)) at
whole limit at now new later w = rw w.said refl

-- ---- octets one after the other

-- what was heard of octets, and what is left
pub record IsSoFar (limit at : ℕ) (octets : List ℕ) (old : Draft) (there : ℕ) (left : List ℕ) (new : Draft) : Type 0 where
  pub same : (more : List ℕ) → first_from limit at (client_of old) (octets ++ more) ≡ first_from limit there (client_of new) (left ++ more)
  pub there_is : there + length left ≡ at + length octets
  pub within : there ≤ limit
  pub draft : IsDraft new

pub begins : (limit at : ℕ) (octets : List ℕ) (old : Draft) → at ≤ limit → IsDraft old → IsSoFar limit at octets old at octets old
begins limit at octets old within is = record { same = λ more. refl; there_is = refl; within = within; draft = is }

-- the octet that is next
one : (limit at : ℕ) (client : Client) (c : ℕ) (rest more : List ℕ) → at < limit
    → first_from limit at client ((c ∷ rest) ++ more) ≡ judged limit (at + 1) (heard client c) (first_from limit (at + 1) (heard client c) (rest ++ more))
one limit at client c rest more below = rw (lt-ltb at limit below) refl

module _ (limit at : ℕ) (octets : List ℕ) (old : Draft) (there : ℕ) (left : List ℕ) (draft : Draft) (so_far : IsSoFar limit at octets old there left draft) where
  pub all_heard : left ≡ [] → Heard limit at octets old there draft
  all_heard none = record {
    same = λ more. so_far.same more ∙ ap (λ (xs : List ℕ). first_from limit there (client_of draft) (xs ++ more)) none;
    there_is = omega (arith, so_far.there_is, ap length none);
    within = so_far.within;
    draft = so_far.draft;
  }

  module _ (c : ℕ) (rest : List ℕ) (split : left ≡ c ∷ rest) where
    here : (more : List ℕ) → there < limit → first_from limit at (client_of old) (octets ++ more)
        ≡ judged limit (there + 1) (heard (client_of draft) c) (first_from limit (there + 1) (heard (client_of draft) c) (rest ++ more))
    here more below = so_far.same more ∙ ap (λ (xs : List ℕ). first_from limit there (client_of draft) (xs ++ more)) split ∙ one limit there (client_of draft) c rest more below

    pub at_limit : limit ≤ there → Leads limit at octets old TooLong
    at_limit past more =
        so_far.same more ∙ ap (λ (xs : List ℕ). first_from limit there (client_of draft) (xs ++ more)) split ∙ rw (le-ltb there limit past) refl

    pub goes_on : (new : Draft) → there < limit → GoesOn (limit - (there + 1)) (heard (client_of draft) c) new → IsSoFar limit at octets old (there + 1) rest new
    goes_on new below g = record {
      same = λ more.
          here more below
          ∙ goes limit (there + 1) (heard (client_of draft) c) new _ (omega arith) g
          ∙ ap (λ s. first_from limit (there + 1) s (rest ++ more)) g.same;
      there_is = omega (arith, so_far.there_is, ap length split);
      within = omega arith;
      draft = g.draft;
    }

    pub goes_astray : there < limit → IsLost (heard (client_of draft) c) → Leads limit at octets old Astray
    goes_astray below l more = here more below ∙ lost limit (there + 1) (heard (client_of draft) c) _ l

    pub is_over : there < limit → IsTooLong (limit - (there + 1)) (heard (client_of draft) c) → Leads limit at octets old TooLong
    is_over below l more = here more below ∙ over limit (there + 1) (heard (client_of draft) c) _ (omega arith) l

    pub is_whole : (new : Draft) → there < limit → IsWhole (heard (client_of draft) c) new → advancing.Ended limit at octets old (there + 1) new
    is_whole new below w = record {
      whole = λ more. here more below ∙ whole limit (there + 1) (heard (client_of draft) c) new _ w;
      within = omega (arith, so_far.there_is, ap length split);
    }

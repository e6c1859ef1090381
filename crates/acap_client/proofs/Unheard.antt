-- What a reader keeps, and what it answers next.
use Rattle.std.proofs.Common.{◌≡◌, ℕ, ◌+◌, ◌≤◌, List, [], ◌++◌, length, drop, Option, refl, sym, ap, ◌∙◌, append_assoc, append-nil, arith, length-append, length-drop}
use Rattle.std.proofs.lemmas.List.{drop-append-le, drop_all}
use Rattle.acap_grammar.specs.Lines.{Line, line_of}
use Rattle.acap_grammar.specs.Readable.{after}
use Rattle.acap_client.specs.Data.{data_of}
use Rattle.acap_client.specs.Drafting.{IsDraft, client_of}
use Rattle.acap_client.specs.Reading.{First, NotYet, Whole, Astray, TooLong, first_of, first_from}
use Rattle.acap_client.specs.Advancing.{Leads, Heard, Ended}
use Rattle.acap_client.specs.Unread.{Unread, IsReader, Answers, AnswersLine, left_by, left_of, next_of}
use Rattle.acap_client.specs.declared.draft.Draft.{Draft}
use Rattle.acap_client.specs.declared.heard.ReadFault.TheVariants as fault
use Rattle.acap_client.specs.declared.heard.Heard as answers
use Rattle.acap_client.specs.declared.heard.Heard.TheVariants as heard
use Rattle.acap_client.specs.declared.draft.Token.{Token}

-- of which no octet was heard
pub unheard : (limit : ℕ) (text : List ℕ) (start : ℕ) (draft : Draft) → start ≤ length text → client_of draft ≡ after [] → IsDraft draft → IsReader limit text start 0 draft
unfolding first_of
unheard limit text start draft within client is = record {
  begins = within;
  within = omega arith;
  below = omega arith;
  sound = is;
  reaches = λ more. rw client refl;
}

pub pushed : (limit : ℕ) (old new piece : List ℕ) (start place at : ℕ) (draft : Draft) → IsReader limit old start at draft → drop place new ≡ drop start old → place ≤ length new
    → IsReader limit (new ++ piece) place at draft
pushed limit old new piece start place at draft is rest within =
    let longer : drop place (new ++ piece) ≡ drop start old ++ piece = drop-append-le place new piece within ∙ ap (λ (xs : List ℕ). xs ++ piece) rest in
    record {
      begins = omega (arith, length-append new piece);
      within = rw longer (omega (arith, length-append (drop start old) piece, is.within));
      below = is.below;
      sound = is.sound;
      reaches = λ more. rw longer (
          ap (first_of limit) (append_assoc (drop start old) piece more)
          ∙ is.reaches (piece ++ more)
          ∙ ap (first_from limit at (client_of draft)) (sym (append_assoc (drop at (drop start old)) piece more)
          ∙ ap (λ (xs : List ℕ). xs ++ more) (sym (drop-append-le at (drop start old) piece is.within))));
    }

module _ (limit : ℕ) (text : List ℕ) (start at : ℕ) (draft : Draft) (is : IsReader limit text start at draft) where
  here : first_of limit (drop start text) ≡ first_from limit at (client_of draft) (drop at (drop start text))
  here =
      ap (first_of limit) (sym (append-nil (drop start text))) ∙ is.reaches [] ∙ ap (first_from limit at (client_of draft)) (append-nil (drop at (drop start text)))

  -- where it leads
  leads : (first : First) → Leads limit at (drop at (drop start text)) draft first → first_of limit (drop start text) ≡ first
  leads first l = here ∙ ap (first_from limit at (client_of draft)) (sym (append-nil (drop at (drop start text)))) ∙ l []

  pub goes_on : (there : ℕ) (new : Draft) → Heard limit at (drop at (drop start text)) draft there new → IsReader limit text start there new
  goes_on there new h =
      let all : there ≡ length (drop start text) = omega (arith, h.there_is, length-drop at (drop start text), is.within) in
      record {
        begins = is.begins;
        within = omega (arith, all);
        below = h.within;
        sound = h.draft;
        reaches = λ more.
            is.reaches more ∙ h.same more
            ∙ ap (λ (xs : List ℕ). first_from limit there (client_of new) (xs ++ more)) (sym (drop_all there (drop start text) (omega (arith, all))));
      }

  pub not_yet : (there : ℕ) (new : Draft) → Heard limit at (drop at (drop start text)) draft there new → first_of limit (drop start text) ≡ NotYet
  not_yet there new h = here ∙ ap (first_from limit at (client_of draft)) (sym (append-nil (drop at (drop start text)))) ∙ h.same []

  pub astray : Leads limit at (drop at (drop start text)) draft Astray → first_of limit (drop start text) ≡ Astray
  astray l = leads Astray l

  pub too_long : Leads limit at (drop at (drop start text)) draft TooLong → first_of limit (drop start text) ≡ TooLong
  too_long l = leads TooLong l

  pub is_whole : (there : ℕ) (new : Draft) → Ended limit at (drop at (drop start text)) draft there new → first_of limit (drop start text) ≡ Whole (line_of (data_of new.tokens.items)) there
  is_whole there new e = leads _ e.whole

  pub line_within : (there : ℕ) (new : Draft) → Ended limit at (drop at (drop start text)) draft there new → start + there ≤ length text
  line_within there new e = omega (arith, e.within, is.within, is.begins, length-drop at (drop start text), length-drop start text)

-- ---- what is answered

abbrev held_as : ℕ → List ℕ → Unread
held_as limit octets = record { limit = limit; octets = octets }

module _ (unread : Unread) (limit : ℕ) (octets : List ℕ) (same : held_as limit octets ≡ unread) where
  next_is : (first : First) → first_of limit octets ≡ first → next_of unread ≡ first
  next_is first e = rw (← same) e

  left_is : (first : First) → first_of limit octets ≡ first → held_as limit (left_by first octets) ≡ left_of unread
  left_is first e = rw (← same) (ap (λ (f : First). held_as limit (left_by f octets)) (sym e))

  pub more_answers : first_of limit octets ≡ NotYet → Answers (next_of unread) heard.More
  more_answers e = rw (next_is NotYet e) tt

  pub more_left : first_of limit octets ≡ NotYet → held_as limit octets ≡ left_of unread
  more_left e = left_is NotYet e

  pub astray_answers : first_of limit octets ≡ Astray → Answers (next_of unread) (heard.Fault fault.Astray)
  astray_answers e = rw (next_is Astray e) tt

  pub astray_left : first_of limit octets ≡ Astray → held_as limit octets ≡ left_of unread
  astray_left e = left_is Astray e

  pub long_answers : first_of limit octets ≡ TooLong → Answers (next_of unread) (heard.Fault fault.TooLong)
  long_answers e = rw (next_is TooLong e) tt

  pub long_left : first_of limit octets ≡ TooLong → held_as limit octets ≡ left_of unread
  long_left e = left_is TooLong e

  pub line_answers : (tokens line : List Token) (there : ℕ) (answer : answers.Heard) → line ≡ tokens → AnswersLine (line_of (data_of line)) answer
      → first_of limit octets ≡ Whole (line_of (data_of tokens)) there → Answers (next_of unread) answer
  line_answers tokens line there answer is given e = rw (next_is _ e) (rw is at given)

  pub line_left : (said : Option Line) (there : ℕ) → first_of limit octets ≡ Whole said there → held_as limit (drop there octets) ≡ left_of unread
  line_left said there e = left_is (Whole said there) e

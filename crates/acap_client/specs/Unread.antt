-- What a reader stands for, and what it answers next [RFC 2244 section 2.2].
use Rattle.std.specs.Prelude.{◌≡◌, ℕ, ◌≤◌, List, ◌++◌, length, drop, Option, Some, None}
use Rattle.acap_grammar.specs.Lines.{Line, line_of}
use Rattle.acap_client.specs.Data.{data_of}
use Rattle.acap_client.specs.Drafting.{IsDraft, client_of}
use Rattle.acap_client.specs.Reading.{First, NotYet, Whole, Astray, TooLong, first_of, first_from}
use Rattle.acap_client.specs.declared.draft.Draft.{Draft}
use Rattle.acap_client.specs.declared.heard.ReadFault.TheVariants as fault
use Rattle.acap_client.specs.declared.heard.Heard.{Heard}
use Rattle.acap_client.specs.declared.heard.Heard.TheVariants as heard

-- the most octets of a line, and the octets that came after the last line that was answered
pub record Unread : Type 0 where
  pub limit : ℕ
  pub octets : List ℕ

-- with a piece more
abbrev pub with_piece : Unread → List ℕ → Unread
with_piece unread piece = record { limit = unread.limit; octets = unread.octets ++ piece }

-- what stands first, and the octets that are left when it was answered
abbrev pub next_of : Unread → First
next_of unread = first_of unread.limit unread.octets

abbrev pub left_by : First → List ℕ → List ℕ
left_by (Whole says at) octets = drop at octets
left_by _ octets = octets

abbrev pub left_of : Unread → Unread
left_of unread = record { limit = unread.limit; octets = left_by (next_of unread) unread.octets }

-- the answer to a line: what it says, or that it says nothing
abbrev pub AnswersLine : Option Line → Heard → Type 0
AnswersLine (Some says) (heard.Line tokens) = line_of (data_of tokens) ≡ Some says
AnswersLine None (heard.Fault fault.Unknown) = Unit {0}
AnswersLine _ _ = ⊥

-- the answer to what stands first
abbrev pub Answers : First → Heard → Type 0
Answers (Whole says at) answer = AnswersLine says answer
Answers NotYet heard.More = Unit {0}
Answers Astray (heard.Fault fault.Astray) = Unit {0}
Answers TooLong (heard.Fault fault.TooLong) = Unit {0}
Answers _ _ = ⊥

-- what a reader keeps beside the octets is true of them
pub record IsReader (limit : ℕ) (text : List ℕ) (start at : ℕ) (draft : Draft) : Type 0 where
  pub begins : start ≤ length text
  pub within : at ≤ length (drop start text)
  pub below : at ≤ limit
  pub sound : IsDraft draft
  pub reaches : (more : List ℕ)
      → first_of limit (drop start text ++ more)
      ≡ first_from limit at (client_of draft) (drop at (drop start text) ++ more)

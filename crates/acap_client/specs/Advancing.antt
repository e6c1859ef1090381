-- How far octets lead in the line that is being read, whatever follows them.
use Rattle.std.specs.Prelude.{◌≡◌, ℕ, ◌+◌, ◌≤◌, List, ◌++◌, length}
use Rattle.acap_grammar.specs.Lines.{line_of}
use Rattle.acap_client.specs.Data.{data_of}
use Rattle.acap_client.specs.Drafting.{IsDraft, client_of}
use Rattle.acap_client.specs.Reading.{First, Whole, Astray, TooLong, first_from}
use Rattle.acap_client.specs.declared.draft.Draft.{Draft}
use Rattle.acap_client.specs.declared.due.Due.{Due}
use Rattle.acap_client.specs.declared.due.Due.TheVariants as due

-- these octets lead there from a draft after `at` octets of a line
abbrev pub Leads : ℕ → ℕ → List ℕ → Draft → First → Type 0
Leads limit at octets draft first =
    (more : List ℕ) → first_from limit at (client_of draft) (octets ++ more) ≡ first

-- all of them were heard, and the line goes on
pub record Heard (limit at : ℕ) (octets : List ℕ) (old : Draft) (there : ℕ) (new : Draft) : Type 0 where
  pub same : (more : List ℕ)
      → first_from limit at (client_of old) (octets ++ more) ≡ first_from limit there (client_of new) more
  pub there_is : there ≡ at + length octets
  pub within : there ≤ limit
  pub draft : IsDraft new

-- the line is whole there, and has the tokens of the draft
pub record Ended (limit at : ℕ) (octets : List ℕ) (old : Draft) (there : ℕ) (new : Draft) : Type 0 where
  pub whole : Leads limit at octets old (Whole (line_of (data_of new.tokens.items)) there)
  pub within : there ≤ at + length octets

abbrev pub IsDue : ℕ → ℕ → List ℕ → Draft → Draft → Due → Type 0
IsDue limit at octets old new (due.More there) = Heard limit at octets old there new
IsDue limit at octets old new (due.Ends there) = Ended limit at octets old there new
IsDue limit at octets old new due.Lost = Leads limit at octets old Astray
IsDue limit at octets old new due.TooLong = Leads limit at octets old TooLong

-- What a session says can be read in one way: its octets are exactly the lines that it says.
use Rattle.std.specs.Prelude.{◌≡◌, ℕ, ◌<◌, ◌^◌, List, [], ◌∷◌, ◌++◌, map, flat_map, length, codes}
use Rattle.std.specs.Prelude.{Option, Some, None}
use Rattle.std.specs.List.{AllByRecursion}
use Rattle.acap_lexer.specs.Spelling.{IsTag}
use Rattle.acap_notices.specs.declared.notice.Notice.{Notice}
use Rattle.acap_notices.specs.declared.notice.Notice.TheVariants as notice
use Rattle.acap_notices.specs.declared.told.Told.{Told}
use Rattle.acap_notices.specs.declared.told.Told.TheVariants as told
use Rattle.acap_commands.specs.declared.reply.Reply.{Reply}
use Rattle.acap_commands.specs.declared.said.Said.{Said}
use Rattle.acap_commands.specs.declared.said.Said.TheVariants as said
use Rattle.acap_grammar.specs.Lines.{Line, GoOn}
use Rattle.acap_grammar.specs.Listening.{hears}
use Rattle.acap_grammar.specs.Readable.{after, IsLine, AreLines}
use Rattle.acap_grammar.specs.Replies.{octets_of, crlf}
use Rattle.acap_grammar.specs.SaidLines.{lines_of}

-- the numbers that are printed
abbrev pub notice_numbers : Notice → List ℕ
notice_numbers (notice.AddTo position row) = position ∷ []
notice_numbers (notice.RemoveFrom entry position) = position ∷ []
notice_numbers (notice.Change old new row) = old ∷ new ∷ []

abbrev pub told_numbers : Told → List ℕ
told_numbers (told.Note context notice) = notice_numbers notice
told_numbers (told.Upto context moment) = []
told_numbers (told.Freed context) = []

abbrev pub total_numbers : Option ℕ → List ℕ
total_numbers None = []
total_numbers (Some total) = total ∷ []

abbrev pub numbers_of : Said → List ℕ
numbers_of (said.Drained tolds) = flat_map told_numbers tolds
numbers_of (said.Updated tolds) = flat_map told_numbers tolds
numbers_of (said.Searched found) = total_numbers found.total
numbers_of _ = []

-- a number of 64 bits
abbrev pub FitsU64 : ℕ → Type 0
FitsU64 n = n < 2 ^ 64

abbrev pub IsTagged : Option (List ℕ) → Type 0
IsTagged None = Unit {0}
IsTagged (Some tag) = IsTag tag

-- What a session may say. Its tag is a tag, as that of each command that was read. Its numbers, and how many
-- octets it is printed with, are numbers of 64 bits.
pub record IsSayable (reply : Reply) : Type 0 where
  pub tagged : IsTagged reply.tag
  pub numbers : AllByRecursion FitsU64 (numbers_of reply.said)
  pub fits : FitsU64 (length (octets_of reply))

-- The octets of a reply are its lines, and those of replies one after the other are the lines of each. What a
-- session prints between replies, where a literal may follow, is a line too.
pub record ReadableLaw : Type 0 where
  pub lines : (reply : Reply) → IsSayable reply → AreLines (octets_of reply) (lines_of reply)
  pub replies : (replies : List Reply) → AllByRecursion IsSayable replies
      → AreLines (flat_map octets_of replies) (flat_map lines_of replies)
  pub heard : (before : List (Option Line)) (replies : List Reply) → AllByRecursion IsSayable replies
      → hears (after before) (flat_map octets_of replies)
      ≡ after (before ++ map Some (flat_map lines_of replies))
  pub ready : IsLine (codes "+ \"Ready\"" ++ crlf) (GoOn (codes "Ready"))

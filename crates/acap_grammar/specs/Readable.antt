-- Octets that can be read in one way: they are lines, each of which says one thing [RFC 2244 section 2.2].
use Rattle.std.specs.Prelude.{◌≡◌, ℕ, ◌<◌, List, [], ◌∷◌, ◌++◌, map, length, Option, Some}
use Rattle.acap_grammar.specs.Lines.{Line}
use Rattle.acap_grammar.specs.Listening.{Client, Between, hears}

-- a client between two lines, that has heard these
abbrev pub after : List (Option Line) → Client
after lines = record { lines = lines; outer = []; inner = []; place = Between }

-- These octets are one line, which says this. A client between two lines that hears them has heard this line,
-- and is between two lines again. From a prefix that lacks some of the octets it has heard no line.
pub record IsLine (octets : List ℕ) (line : Line) : Type 0 where
  pub whole : (lines : List (Option Line)) → hears (after lines) octets ≡ after (lines ++ Some line ∷ [])
  pub part : (lines : List (Option Line)) (prefix rest : List ℕ) → octets ≡ prefix ++ rest → 0 < length rest
      → (hears (after lines) prefix).lines ≡ lines

-- these octets are these lines, one after the other
abbrev pub AreLines : List ℕ → List Line → Type 0
AreLines octets [] = octets ≡ []
AreLines octets (line ∷ lines) =
    (first : List ℕ) × (others : List ℕ) × (octets ≡ first ++ others)
    × IsLine first line × AreLines others lines

-- How octets are heard, whatever they are.
pub record HearingLaw : Type 0 where
  -- pieces are heard as the octets that they are together
  pub pieces : (client : Client) (prefix rest : List ℕ)
      → hears client (prefix ++ rest) ≡ hears (hears client prefix) rest
  -- lines are heard as these lines, and what follows is heard by a client that is between two lines
  pub lines : (before : List (Option Line)) (octets : List ℕ) (said : List Line) → AreLines octets said
      → hears (after before) octets ≡ after (before ++ map Some said)
  -- lines and then lines are lines
  pub joined : (octets more : List ℕ) (said others : List Line) → AreLines octets said → AreLines more others
      → AreLines (octets ++ more) (said ++ others)
  -- octets that end within a line are heard as the lines before it
  pub within : (before : List (Option Line)) (octets prefix rest : List ℕ) (said : List Line) (line : Line)
      → AreLines octets said → IsLine (prefix ++ rest) line → 0 < length rest
      → (hears (after before) (octets ++ prefix)).lines ≡ before ++ map Some said
  -- no line begins another
  pub apart : (octets more : List ℕ) (line other : Line) → IsLine octets line → IsLine (octets ++ more) other
      → more ≡ []
  -- no octets are two lists of lines
  pub one_way : (octets : List ℕ) (said others : List Line) → AreLines octets said → AreLines octets others
      → said ≡ others

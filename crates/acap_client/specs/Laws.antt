-- What a reader answers and what a client hears are one.
use Rattle.std.specs.Prelude.{◌≡◌, ℕ, ◌<◌, ◌≤◌, List, [], ◌∷◌, ◌++◌, length, take, Option, Some}
use Rattle.acap_grammar.specs.Lines.{Line}
use Rattle.acap_grammar.specs.Listening.{Lost, hears}
use Rattle.acap_grammar.specs.Readable.{IsLine, after}
use Rattle.acap_client.specs.Reading.{NotYet, Whole, Astray, first_of}

-- the first `at` octets and no fewer are heard as this line, and they are no more than the limit
pub record IsFirst (limit : ℕ) (octets : List ℕ) (says : Option Line) (at : ℕ) : Type 0 where
  pub some : 0 < at
  pub within : at ≤ length octets
  pub below : at ≤ limit
  pub none : (n : ℕ) → n < at → (hears (after []) (take n octets)).lines ≡ []
  pub heard : (before : List (Option Line))
      → hears (after before) (take at octets) ≡ after (before ++ says ∷ [])

-- From the octets after a line, whatever was heard before it.
pub record FirstLaw : Type 0 where
  -- a line is answered where its octets are heard as it
  pub whole : (limit : ℕ) (octets : List ℕ) (says : Option Line) (at : ℕ)
      → first_of limit octets ≡ Whole says at → IsFirst limit octets says at
  -- nothing is answered where no line is heard yet
  pub not_yet : (limit : ℕ) (octets : List ℕ) → first_of limit octets ≡ NotYet
      → (before : List (Option Line)) → (hears (after before) octets).lines ≡ before
  -- a server is astray where no line is heard, whatever follows
  pub astray : (limit : ℕ) (octets : List ℕ) → first_of limit octets ≡ Astray
      → (before : List (Option Line))
      → ((hears (after before) octets).lines ≡ before) × ((hears (after before) octets).place ≡ Lost)
  -- a line that is no longer than the limit is answered, whatever follows
  pub line : (limit : ℕ) (octets more : List ℕ) (says : Line) → IsLine octets says → length octets ≤ limit
      → first_of limit (octets ++ more) ≡ Whole (Some says) (length octets)

-- Examples of what a follower holds.
use Rattle.std.specs.Prelude.{◌≡◌, ℕ, Bool, true, false, List, [], ◌∷◌, codes, Option, Some, None}
use Rattle.acap_grammar.specs.Lines.{Text, Line, Ending, Done, Failed, Entry, AddTo, RemoveFrom, Change}
use Rattle.acap_grammar.specs.Lines.{UpTo, Alert, Completion}
use Rattle.acap_grammar.specs.Printed.{PrintedRow}
use Rattle.acap_client.specs.Following.{Follower, Kept, Listed, new, making, look_up, follow_all}

abbrev c : List ℕ
c = codes "c"

abbrev row : List ℕ → List ℕ → PrintedRow
row name value = record { name = name; items = Text value ∷ [] }

-- a SEARCH under this tag makes the context, with positions, and finds this entry
abbrev searching : List ℕ → Follower → Follower
searching tag f = making tag (Some (record { enumerate = true; notify = true; name = c })) f

abbrev finds : List ℕ → List ℕ → List ℕ → Line
finds tag name value = Entry (Some tag) name (Text value ∷ [])

abbrev ends : List ℕ → Ending → Line
ends tag ending = Completion (Some tag) ending None (codes "done")

abbrev kept : Follower → Option Kept
kept f = look_up c f.contexts

-- the context with one entry
abbrev before : Follower
before =
    let lines = finds (codes "A") (codes "x") (codes "1") ∷ ends (codes "A") Done ∷ [] in
    (follow_all lines (searching (codes "A") new)).0

abbrev holds : List PrintedRow → Bool → Bool → Option Kept
holds rows complete freed = Some (record { held = Listed rows; complete = complete; freed = freed })

abbrev after : List Line → Option Kept
after lines = kept (follow_all lines before).0

abbrev misfits : List Line → List (List ℕ)
misfits lines = (follow_all lines before).1

pub record FollowingExamples : Type 0 where
  pub made : kept before ≡ holds (row (codes "x") (codes "1") ∷ []) false false
  pub waits : kept (searching (codes "B") before) ≡ kept before
  -- another SEARCH of that name: replaced where it succeeds, kept where it is refused
  pub replaced : let lines = finds (codes "B") (codes "y") (codes "2") ∷ ends (codes "B") Done ∷ [] in
      kept (follow_all lines (searching (codes "B") before)).0
      ≡ holds (row (codes "y") (codes "2") ∷ []) false false
  pub refused : let lines = finds (codes "B") (codes "y") (codes "2") ∷ ends (codes "B") Failed ∷ [] in
      kept (follow_all lines (searching (codes "B") before)).0
      ≡ kept before
  -- a notice, and the MODTIME after it
  pub added : after (AddTo c (codes "y") 1 (Text (codes "2") ∷ []) ∷ [])
      ≡ holds (row (codes "y") (codes "2") ∷ row (codes "x") (codes "1") ∷ []) false false
  pub complete : after (UpTo c (codes "20260101000000000000") ∷ [])
      ≡ holds (row (codes "x") (codes "1") ∷ []) true false
  pub since : after (UpTo c (codes "20260101000000000000") ∷ RemoveFrom c (codes "x") 1 ∷ [])
      ≡ holds [] false false
  -- the new position is counted when the entry has been taken out
  pub moved : after (AddTo c (codes "y") 2 [] ∷ Change c (codes "x") 1 2 (Text (codes "3") ∷ []) ∷ [])
      ≡ holds (record { name = codes "y"; items = [] } ∷ row (codes "x") (codes "3") ∷ []) false false
  -- a misfit is of its context, and what is held stays
  pub misfit : misfits (RemoveFrom c (codes "x") 2 ∷ AddTo (codes "d") (codes "x") 1 [] ∷ [])
      ≡ c ∷ codes "d" ∷ []
  pub stays : after (RemoveFrom c (codes "x") 2 ∷ []) ≡ kept before
  pub freed : after (Alert (codes "Context freed: c") ∷ [])
      ≡ holds (row (codes "x") (codes "1") ∷ []) false true
  pub other_text : after (Alert (codes "Context freed. c") ∷ []) ≡ kept before

-- A list over changes and tellings, and the client that follows it [RFC 2244 sections 3.3 and 6.5].
use Rattle.std.specs.Prelude.{◌≡◌, Bool, false, Option, Some, List, [], ◌∷◌, ◌++◌}
use Rattle.std.specs.Option.{option_and_then}
use Rattle.acap_notices.specs.declared.notice.Notice.{Notice}
use Rattle.acap_notices.specs.Holding.{Holding, holding, holding_after_all}
use Rattle.acap_moves.specs.Hits.{Name, Shape, IsLawful, is_among, IsDistinct, fresh, rows, IsOfNames}
use Rattle.acap_moves.specs.Hits.{Supports}
use Rattle.acap_moves.specs.Notices.{notices}
use Rattle.acap_moves.specs.Moves.{Move, after_moves, moves_notices}

-- the hits at some time, which are those of these names alone
pub record Scene (H : Type 0) : Type 0 where
  pub hit : Name → Option H
  pub names : List Name

-- what is there after a change, all names of before and after, and those that changed
pub record Change (H : Type 0) : Type 0 where
  pub after : Scene H
  pub names : List Name
  pub changed : List Name

-- what may happen to a list: a change, or its client is sent all that waits
pub data Happening (H : Type 0) : Type 0 where
  Changes : (change : Change H) → Happening H
  Tells : Happening H

-- the list last sent, the notices that wait, what is there
-- now, and what the client holds: none after a misfit
pub record Followed (H : Type 0) : Type 0 where
  pub told : List H
  pub pending : List Notice
  pub now : Scene H
  pub client : Option Holding

module _ {H : Type 0} (v : Shape H) where
  pub record IsScene (s : Scene H) : Type 0 where
    pub distinct : IsDistinct s.names
    pub of_names : IsOfNames v s.hit
    pub supports : Supports s.hit s.names

  abbrev pub list_of : Scene H → List H
  list_of s = fresh v s.hit s.names

  pub record IsChange (before : Scene H) (change : Change H) : Type 0 where
    pub scene : IsScene change.after
    pub distinct : IsDistinct change.names
    pub old_within : Supports before.hit change.names
    pub new_within : Supports change.after.hit change.names
    pub kept : (name : Name) → is_among name change.changed ≡ false → before.hit name ≡ change.after.hit name

  -- each change is one of what is there then
  abbrev pub AreChanges : Scene H → List (Happening H) → Type 0
  AreChanges s [] = Unit {0}
  AreChanges s (Changes change ∷ happenings) = IsChange s change × AreChanges change.after happenings
  AreChanges s (Tells ∷ happenings) = AreChanges s happenings

  abbrev pub notices_of : Bool → Scene H → Change H → List Notice
  notices_of enumerated s change = notices v enumerated s.hit change.after.hit change.names change.changed

  -- a client that was given the rows of the list
  abbrev pub opened : Bool → Scene H → Followed H
  opened enumerated s =
      record {
        told = list_of s;
        pending = [];
        now = s;
        client = Some (holding enumerated (rows v (list_of s)));
      }

  abbrev pub after_one : Bool → Followed H → Happening H → Followed H
  after_one enumerated f (Changes change) = record f {
    pending = f.pending ++ notices_of enumerated f.now change;
    now = change.after;
  }
  after_one enumerated f Tells = record f {
    told = list_of f.now;
    pending = [];
    client = option_and_then (λ held. holding_after_all held f.pending) f.client;
  }

  abbrev pub after_all : Bool → Followed H → List (Happening H) → Followed H
  after_all enumerated f [] = f
  after_all enumerated f (happening ∷ happenings) =
      after_all enumerated (after_one enumerated f happening) happenings

  -- what waits takes the list last sent to the present one, and the client holds the list last sent
  pub record IsFollowing (enumerated : Bool) (f : Followed H) : Type 0 where
    pub scene : IsScene f.now
    pub leads : holding_after_all (holding enumerated (rows v f.told)) f.pending
        ≡ Some (holding enumerated (rows v (list_of f.now)))
    pub client : f.client ≡ Some (holding enumerated (rows v f.told))

-- whatever changes and whenever the client is sent what waits
abbrev pub FollowingLaw : (H : Type 0) → Type 0
FollowingLaw H =
    (v : Shape H) → IsLawful v → (enumerated : Bool) (s : Scene H) (happenings : List (Happening H))
    → IsScene v s → AreChanges v s happenings
    → IsFollowing v enumerated (after_all v enumerated (opened v enumerated s) happenings)

-- the notices of two changes one after the other are both lists joined: those that wait, those that lead from
-- the first list to the last, and those of moves
pub record PendingLaw (H : Type 0) : Type 0 where
  pub wait : (v : Shape H) (enumerated : Bool) (f : Followed H) (one two : Change H)
      → (after_all v enumerated f (Changes one ∷ Changes two ∷ [])).pending
      ≡ f.pending ++ (notices_of v enumerated f.now one ++ notices_of v enumerated one.after two)
  pub lead : (v : Shape H) → IsLawful v → (enumerated : Bool) (s : Scene H) (one two : Change H) → IsScene v s
      → IsChange v s one → IsChange v one.after two
      → holding_after_all (holding enumerated (rows v (list_of v s)))
      (notices_of v enumerated s one ++ notices_of v enumerated one.after two)
      ≡ Some (holding enumerated (rows v (list_of v two.after)))
  pub moved : (v : Shape H) (enumerated : Bool) (one two : List (Move H)) (hits : List H)
      → moves_notices v enumerated (one ++ two) hits
      ≡ moves_notices v enumerated one hits ++ moves_notices v enumerated two (after_moves v one hits)

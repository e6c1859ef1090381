-- Words of the contracts: what the client that is followed holds after a step of a story.
use Rattle.std.specs.Prelude.{◌≡◌, ℕ, ◌==◌, Bool, true, false, is_some, List, Some, IsSome, IsTrue}
use Rattle.std.specs.Prelude.{if◌then◌else◌}
use Rattle.acap_commands.specs.declared.event.Event.{Event}
use Rattle.acap_commands.specs.declared.search_modifiers.MakeContext.{MakeContext}
use Rattle.acap_commands.specs.declared.said.Said.{Said}
use Rattle.acap_commands.specs.declared.said.Said.TheVariants as said
use Rattle.acap_commands.specs.declared.search.Search.{Search}
use Rattle.acap_commands.specs.declared.said.SearchReply.{SearchReply}
use Rattle.acap_machine.specs.Client.{Client, begun_with, is_told_whole, live_at, tells_named}
use Rattle.acap_session.specs.Live.{client_told, is_named_action, tells_in, told_in, whole_told}
use Rattle.acap_session.specs.World.{World, Step, did}

-- what a client holds that begins with what a SEARCH sent, which made its context, and whether that was its
-- whole list
pub record IsBegun (search : Search) (found : SearchReply) (make : MakeContext) (held : Client) : Type 0 where
  pub held_is : held ≡ begun_with search found (Some make)
  pub whole : is_some held ≡ is_told_whole search found

-- whether an UPDATECONTEXT of a name ends in what is said
abbrev pub updates : List ℕ → Event → Said → Bool
updates name e (said.Updated tolds) = tells_named name e
updates name e other = false

-- A step was made, and from what the client of a context held before it follows what it holds then. Where an
-- UPDATECONTEXT of that context ended, it is sent all, and the context is live.
pub record HasGone (seat : ℕ) (name : List ℕ) (x : Step) (ended : Bool) (old : World) (before : Client)
    (new : World) (held : Client) : Type 0 where
  pub left : new ≡ did x.occasion x.refused x.action old
  pub held_is : held ≡ (if x.occasion.seat == seat then client_told name (told_in old x) before else before)
  pub whole :
      is_some held
      ≡ (if x.occasion.seat == seat then whole_told name (told_in old x) (is_some before) else is_some before)
  pub named : is_named_action x.action ≡ true
  pub tells : IsTrue ended → tells_in seat name old x ≡ true
  pub live : IsTrue ended → IsSome (live_at new.machine seat name)

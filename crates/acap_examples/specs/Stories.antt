-- Stories of sessions: runs of a world, and what is shown of the client of a context in them [RFC 2244
-- sections 3.3 and 6.5].
use Rattle.std.specs.Prelude.{◌≡◌, List, [], map, Some}
use Rattle.acap_entries.specs.declared.row.Row.{Row}
use Rattle.acap_examples.specs.declared.story.Action.{Action}
use Rattle.acap_examples.specs.declared.story.Action.TheVariants as action
use Rattle.acap_examples.specs.declared.story.Step.{Step}
use Rattle.acap_examples.specs.declared.story.Story.{Story}
use Rattle.acap_machine.specs.Client.{View}
use Rattle.acap_notices.specs.Holding.{Holding, HasRows}
use Rattle.acap_session.specs.Live.{AreNamed, Telling, IsTelling, client, step_on}
use Rattle.acap_session.specs.World as world

-- a step as one of a world: no event is refused memory
abbrev pub action_of : Action → world.Action
action_of (action.Open user) = world.Open (Some user)
action_of (action.Piece octets) = world.Piece octets
action_of action.Turn = world.Turn

abbrev pub as_step : Step → world.Step
as_step step = step_on step.occasion (action_of step.action)

-- a story as a run of a new world into which nobody may log in, of whose last step the law of clients speaks
abbrev pub telling_of : Story → Telling
telling_of story = record {
  realm = story.realm;
  users = [];
  host = story.host;
  steps = map as_step story.steps.items;
  last = as_step story.last;
  seat = story.seat;
  name = story.name;
}

-- all premises of the law of clients hold of a run, and the client holds that
pub record Shows (t : Telling) (held : Holding) : Type 0 where
  pub view : View
  pub premises : IsTelling AreNamed t view
  pub holds : client t ≡ Some held

-- and that is these rows: in their order with positions, by name without
pub record ShowsRows (t : Telling) (rows : List Row) : Type 0 where
  pub held : Holding
  pub shows : Shows t held
  pub rows_are : HasRows held rows

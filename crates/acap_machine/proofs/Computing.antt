-- The examples, by computation.
use Rattle.std.proofs.Common.{refl}
use Rattle.std.specs.Str.{is_utf8, chars}
use Rattle.std.specs.Char.{encode_utf8}
use Rattle.acap_entries.specs.Names.{components, is_component, is_identity, is_user_name}
use Rattle.acap_entries.specs.Homes.{is_home, for_user}
use Rattle.acap_machine.specs.Examples.{FoundExamples, ServingExamples, SeatLaw}
use Rattle.acap_machine.specs.Searching.{searched_over}
use Rattle.acap_machine.specs.Serving.{answer_to}
use Rattle.acap_rights.specs.Deciding.{implicit_rights}
use Rattle.acap_rights.specs.Homes.{is_owner, home_of}
use Rattle.acap_rights.specs.Realms.{is_administrator}

pub found_examples : FoundExamples
found_examples = record {
  untold = λ last q matches e. rw e refl;
  told = λ last q items a b c e. rw e refl;
  within = λ last q items a b e. rw e refl;
  beyond = λ last q items a b c e. rw e refl;
  counted = λ last q a b c e. rw e refl;
  numbers = refl;
}

pub serving_examples : ServingExamples
unfolding answer_to searched_over implicit_rights is_owner home_of is_administrator for_user is_home components is_component is_identity is_user_name is_utf8 chars encode_utf8
serving_examples = record {
  noop = λ m seat user clock. refl;
  logout = λ m seat user clock. refl;
  login = λ m seat user mechanism clock. refl;
  stores = λ m seat user entries clock change e. rw e refl;
  refuses = λ m seat user entries clock because e. rw e refl;
  sets = λ m seat user object identifier letters clock change e. rw e refl;
  drops = λ m seat user object identifier clock change e. rw e refl;
  own = λ m seat modifiers. refl;
  missing = λ found. refl;
  of_contexts = refl;
  keeps = λ m seat clock a b c seats none e f. rw (none, e, f) refl;
  no_place = λ m seat clock none e. rw (none, e) refl;
  no_dataset = λ m seat clock e. rw e refl;
  query_within = λ own modifiers wanted. refl;
  searches_context = λ m seat clock modifiers why e. rw e refl;
  frees = λ m seat name clock seats e. rw e refl;
  frees_none = λ m seat name clock e. rw e refl;
  updates = λ m seat names clock told seats e. rw e refl;
  updates_none = λ m seat names clock why e. rw e refl;
  owner = λ s seats seat clock. refl;
  administrator = λ s seats seat clock. refl;
}

pub seat_law : SeatLaw
seat_law = record {
  enters = λ m seat user clock e. rw e refl;
  taken = λ m seat user other clock e. rw e refl;
  leaves = λ m seat user clock e. rw e refl;
  drains = λ m seat user clock e. rw e refl;
  asks = λ m new seat user c clock words e f. rw (e, f) refl;
  nobody = λ m seat c clock e. rw e refl;
  nobody_leaves = λ m seat clock e. rw e refl;
  nobody_drains = λ m seat clock e. rw e refl;
  stays = λ m f. refl;
  second = λ m a b. refl;
  last = λ m a. refl;
  never_full = λ stepped never. never;
}

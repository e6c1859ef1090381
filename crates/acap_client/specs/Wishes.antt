-- A command that waits, as the definition of a follower has it.
use Rattle.acap_client.specs.Following.{Asked, Making, Freeing}
use Rattle.acap_client.specs.declared.wish.Wish.{Wish}
use Rattle.acap_client.specs.declared.wish.Wish.TheVariants as wish

abbrev pub asked_in : Wish → Asked
asked_in (wish.Make make rows) = Making make rows.items
asked_in (wish.Free context) = Freeing context

-- The key that a node of a tree in memory stands for.
use Rattle.acap_commands.specs.declared.key.Node.{Node}
use Rattle.acap_commands.specs.declared.key.Node.TheVariants as node
use Rattle.acap_commands.specs.Wanted.{Wanted, One, And, Or, Not}

abbrev pub wanted_of : Node → Wanted
wanted_of (node.One test) = One test
wanted_of (node.And a b) = And a.value b.value
wanted_of (node.Or a b) = Or a.value b.value
wanted_of (node.Not a) = Not a.value

-- Words that speak of access lists, as commands [RFC 2244 sections 3.5 and 6.7].
use Rattle.std.specs.Prelude.{ℕ, List, [], ◌∷◌, ◌++◌, codes, Some, None}
use Rattle.acap_commands.specs.declared.command.Command.{Command}
use Rattle.acap_commands.specs.declared.command.Command.TheVariants as command
use Rattle.acap_commands.specs.declared.returns.Metadata.TheVariants as metadata
use Rattle.acap_commands.specs.declared.object_name.ObjectName.{ObjectName}
use Rattle.acap_commands.specs.declared.object_name.ObjectName.TheVariants as object_name
use Rattle.acap_commands.specs.declared.returns.ReturnName.TheVariants as name
use Rattle.acap_shell.specs.Searches.{is_named, returning, search, value_of}

abbrev pub revoke : ObjectName → List ℕ → Command
revoke object identifier = command.DeleteAcl object (Some identifier)

abbrev pub revoke_all : ObjectName → Command
revoke_all object = command.DeleteAcl object None

-- an attribute of the management entry, and the access list of an attribute of one entry
abbrev pub managed : List ℕ → List ℕ → Command
managed dataset attribute = search dataset (value_of attribute) (is_named [])

abbrev pub kept : List ℕ → List ℕ → List ℕ → Command
kept dataset attribute entry =
    search dataset (returning (name.Named attribute) (metadata.Acl ∷ [])) (is_named entry)

-- where the access list of an object is
abbrev pub access_list : ObjectName → Command
access_list (object_name.Dataset dataset) = managed dataset (codes "dataset.acl")
access_list (object_name.Attribute dataset attribute) = managed dataset (codes "dataset.acl." ++ attribute)
access_list (object_name.Entry dataset attribute entry) = kept dataset attribute entry

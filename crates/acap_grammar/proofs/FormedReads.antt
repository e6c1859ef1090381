-- The paths and datasets of a command that can be sent are well formed.
use Rattle.std.proofs.Common.{List, [], ◌∷◌, ◌++◌}
use Rattle.std.specs.List.{AllByRecursion}
use Rattle.acap_commands.specs.declared.command.Command.{Command}
use Rattle.acap_commands.specs.declared.command.Command.TheVariants as command
use Rattle.acap_commands.specs.declared.object_name.ObjectName.{ObjectName}
use Rattle.acap_commands.specs.declared.object_name.ObjectName.TheVariants as object_name
use Rattle.acap_commands.specs.declared.store.StoreEntry.{StoreEntry}
use Rattle.acap_grammar.specs.Formed.{IsFormed, IsFormedObject, HasFormedPaths, ReadsFormed}
use Rattle.acap_grammar.specs.Sendable.{IsObject, Each, IsEntry, IsSendable}
use Rattle.acap_grammar.specs.Spelling.{target_text}
use Rattle.acap_grammar.proofs.FormedNames.{formed_dataset, formed_path, formed_entry, target_is}
use Rattle.acap_grammar.proofs.SendableReads.{reads_sendable}

-- ---- commands

formed_object : (o : ObjectName) → IsObject o → IsFormedObject o
formed_object (object_name.Dataset dataset) h = formed_dataset dataset h
formed_object (object_name.Attribute dataset attribute) h = formed_dataset dataset h.0
formed_object (object_name.Entry dataset attribute name) h = (formed_dataset dataset h.0, formed_entry dataset name h.0 h.2)

formed_entries : (before entries : List StoreEntry) → Each IsEntry before entries → AllByRecursion (λ (e : StoreEntry). IsFormed e.path) entries
formed_entries before [] h = tt
formed_entries before (e ∷ entries) h = (formed_path e.path h.0.path, formed_entries (before ++ e ∷ []) entries h.1)

formed : (c : Command) → IsSendable c → HasFormedPaths c
formed command.Noop h = tt
formed command.Logout h = tt
formed (command.Authenticate mechanism) h = tt
formed (command.Store entries) h = formed_entries [] entries h.1
formed (command.Search s) h = (target_is (target_text s.target) s.target h.target).1
formed (command.SetAcl o identifier rights) h = formed_object o h
formed (command.DeleteAcl o identifier) h = formed_object o h
formed (command.MyRights o) h = formed_object o h
formed (command.ListRights o identifier) h = formed_object o h
formed (command.DeletedSince dataset since) h = formed_dataset dataset h.0
formed (command.FreeContext name) h = tt
formed (command.UpdateContext names) h = tt

pub reads_formed : ReadsFormed
reads_formed tokens c e = formed c (reads_sendable tokens c e)

-- What is spelled is read back.
use Rattle.std.proofs.Common.{◌≡◌, ℕ, true, List, [], Some, None, Ok, refl}
use Rattle.acap_lexer.specs.Token.{Token}
use Rattle.acap_entries.proofs.TimeLaws.{time_law}
use Rattle.acap_commands.specs.declared.command.Command.TheVariants as command
use Rattle.acap_commands.specs.declared.object_name.ObjectName.{ObjectName}
use Rattle.acap_commands.specs.declared.object_name.ObjectName.TheVariants as object_name
use Rattle.acap_grammar.specs.Marks.{is_string, ends, starts, behind, string_at, word_at}
use Rattle.acap_grammar.specs.Arguments.{context_named, named_at, entry_part, attribute_part, object_at}
use Rattle.acap_grammar.specs.Grammar.{set_acl_at, delete_acl_at, list_rights_at, deleted_since_at, context_at, contexts_at, arguments_at, command_of}
use Rattle.acap_grammar.specs.Sendable.{Names, IsObject, IsSendable, SpellsCommands}
use Rattle.acap_grammar.specs.Spelling.{object, string, tokens_of}
use Rattle.acap_grammar.proofs.StoreReads.{entries_read}
use Rattle.acap_grammar.proofs.SearchReads.{search_reads}
use Rattle.acap_grammar.proofs.ListReads.{ReadsEach, some_read}

object_reads : (o : ObjectName) (rest : List Token) → IsObject o → object_at (object o rest) ≡ Ok (o, rest)
unfolding object_at named_at string_at behind starts attribute_part entry_part
object_reads (object_name.Dataset dataset) rest h = rw h refl
object_reads (object_name.Attribute dataset attribute) rest h = rw (h.0, h.1) refl
object_reads (object_name.Entry dataset attribute name) rest h = rw (h.0, h.1, h.2) refl

contexts_read : ReadsEach {X = List ℕ} ends (λ ts. true) context_at string (λ before name. Names context_named name name)
unfolding ends context_at named_at string_at
contexts_read = record { leads = λ x rest. refl; follows = λ x rest. refl; reads = λ seen x rest s n. rw s refl }

update_reads : (tag : List ℕ) (names : List (List ℕ)) → IsSendable (command.UpdateContext names) → command_of (tokens_of tag (command.UpdateContext names)) ≡ Ok (command.UpdateContext names)
unfolding command_of word_at arguments_at contexts_at ends
update_reads tag names h = rw (some_read contexts_read (starts is_string) names 199 [] refl refl h.0 h.1) refl

pub spells_commands : SpellsCommands
unfolding command_of word_at arguments_at set_acl_at delete_acl_at list_rights_at deleted_since_at named_at string_at ends
spells_commands tag command.Noop h = refl
spells_commands tag command.Logout h = refl
spells_commands tag (command.Authenticate mechanism) h = refl
spells_commands tag (command.Store entries) h = rw (entries_read entries h) refl
spells_commands tag (command.Search s) h = rw (search_reads s h) refl
spells_commands tag (command.SetAcl o identifier rights) h = rw (object_reads o _ h) refl
spells_commands tag (command.DeleteAcl o None) h = rw (object_reads o _ h) refl
spells_commands tag (command.DeleteAcl o (Some identifier)) h = rw (object_reads o _ h) refl
spells_commands tag (command.MyRights o) h = rw (object_reads o _ h) refl
spells_commands tag (command.ListRights o identifier) h = rw (object_reads o _ h) refl
spells_commands tag (command.DeletedSince dataset since) h = rw (h.0, time_law since h.1) refl
spells_commands tag (command.FreeContext name) h = rw h refl
spells_commands tag (command.UpdateContext names) h = update_reads tag names h

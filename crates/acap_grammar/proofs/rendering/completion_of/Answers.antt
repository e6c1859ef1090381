use Rattle.std.proofs.Common.{refl}
use Rattle.std.specs.Str.{is_utf8, chars}
use Rattle.std.specs.Char.{encode_utf8}
use Rattle.acap_lexer.specs.Octets.{is_escaped}
use Rattle.acap_lexer.specs.Printing.{printed_form, quoted_form, may_quote, is_printable}
use Rattle.acap_grammar.proofs.rendering.completion_of.Goals as goal

pub returns-in-Noop : goal.returns-in-Noop
unfolding printed_form quoted_form may_quote is_printable is_escaped is_utf8 chars encode_utf8
returns-in-Noop c = rw c.in-Noop.is refl

pub returns-in-Logout : goal.returns-in-Logout
unfolding printed_form quoted_form may_quote is_printable is_escaped is_utf8 chars encode_utf8
returns-in-Logout c = rw c.in-Logout.is refl

pub returns-in-Authenticate : goal.returns-in-Authenticate
unfolding printed_form quoted_form may_quote is_printable is_escaped is_utf8 chars encode_utf8
returns-in-Authenticate c = rw c.in-Authenticate.is refl

pub returns-in-Search : goal.returns-in-Search
unfolding printed_form quoted_form may_quote is_printable is_escaped is_utf8 chars encode_utf8
returns-in-Search c = rw c.in-Search.is refl

pub returns-in-FreeContext : goal.returns-in-FreeContext
unfolding printed_form quoted_form may_quote is_printable is_escaped is_utf8 chars encode_utf8
returns-in-FreeContext c = rw c.in-FreeContext.is refl

pub returns-in-UpdateContext : goal.returns-in-UpdateContext
unfolding printed_form quoted_form may_quote is_printable is_escaped is_utf8 chars encode_utf8
returns-in-UpdateContext c = rw c.in-UpdateContext.is refl

pub returns-in-Store : goal.returns-in-Store
unfolding printed_form quoted_form may_quote is_printable is_escaped is_utf8 chars encode_utf8
returns-in-Store c = rw c.in-Store.is refl

pub returns-in-DeletedSince : goal.returns-in-DeletedSince
unfolding printed_form quoted_form may_quote is_printable is_escaped is_utf8 chars encode_utf8
returns-in-DeletedSince c = rw c.in-DeletedSince.is refl

pub returns-in-SetAcl : goal.returns-in-SetAcl
unfolding printed_form quoted_form may_quote is_printable is_escaped is_utf8 chars encode_utf8
returns-in-SetAcl c = rw c.in-SetAcl.is refl

pub returns-in-DeleteAcl : goal.returns-in-DeleteAcl
unfolding printed_form quoted_form may_quote is_printable is_escaped is_utf8 chars encode_utf8
returns-in-DeleteAcl c = rw c.in-DeleteAcl.is refl

pub returns-in-MyRights : goal.returns-in-MyRights
unfolding printed_form quoted_form may_quote is_printable is_escaped is_utf8 chars encode_utf8
returns-in-MyRights c = rw c.in-MyRights.is refl

pub returns-in-ListRights : goal.returns-in-ListRights
unfolding printed_form quoted_form may_quote is_printable is_escaped is_utf8 chars encode_utf8
returns-in-ListRights c = rw c.in-ListRights.is refl

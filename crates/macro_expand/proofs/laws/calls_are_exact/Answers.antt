use Rattle.macro_expand.proofs.InvocationLemmas.{call_found, call_is, none_found, none_there, items_found, items_there}
use Rattle.macro_expand.proofs.laws.calls_are_exact.Goals as goal

pub returns : goal.returns
returns c = record {
  call = λ list c. (call_found list c, call_is list c);
  unclosed = λ list. (none_found list, none_there list);
  items = λ d inside args b. (items_found d inside args, items_there d inside args b);
}

use Rattle.std.proofs.Common.{◌≡◌, map, take, string_bytes}
use Rattle.dwmac.proofs.words.words_of.Given as goal

-- the words so far are those before the next argument
abbrev pub invariant-loop-arg : goal.invariant-loop-arg
invariant-loop-arg l = l.words ≡ map string_bytes (take l.arg-index l.args)

-- A fault that is handed on is the fault that came.
use Rattle.std.proofs.Common.{◌≡◌, Ok, Err, ap, ◌∙◌, sym}
use Rattle.std.specs.Prelude.{Result}
use Rattle.std.specs.Result.{IsErrAnd}
use Rattle.object_writer.specs.declared.fault.WriteFault.{WriteFault}

pub handed : {A B : Type 0} (result : Result A WriteFault) (fault large : WriteFault) → IsErrAnd result (λ found. found ≡ fault) → result ≡ Err large → ◌≡◌ {A = Result B WriteFault} (Err fault) (Err large)
handed (Ok x) fault large gives is = absurd gives
handed (Err found) fault large gives is =
    let e : found ≡ large = cc in
    ap (λ f. Err f) (sym gives ∙ e)

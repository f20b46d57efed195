-- Contents that explain an answer.
use Rattle.std.proofs.Common.{◌≡◌, ◌<◌, ◌+◌, ℕ, List, Some, length, replicate, refl, arith}
use Rattle.std.proofs.lemmas.List.{length-replicate}
use Rattle.std.proofs.lemmas.List.Elements.{All-replicate}
use Rattle.mac_io.specs.declared.shelf.Fetched.TheVariants.{TooLong}
use Rattle.mac_io.specs.Calls.{FetchesSome}

-- a file of too many bytes
pub too_long : (limit : ℕ) (old new : List ℕ) → new ≡ old → FetchesSome limit TooLong old new
too_long limit old new same =
    let long : limit < length (replicate {A = ℕ} (limit + 1) 0) = omega (arith, length-replicate {A = ℕ} (limit + 1) 0) in
    (Some (replicate (limit + 1) 0), All-replicate (λ (byte : ℕ). byte < 256) (limit + 1) 0 (omega arith), (replicate (limit + 1) 0, refl, long, same))

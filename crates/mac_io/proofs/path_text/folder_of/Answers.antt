use Rattle.std.proofs.Common.{◌==◌, not, reverse, arith}
use Rattle.std.proofs.lemmas.List.{length-reverse}
use Rattle.std.proofs.lemmas.List.Sums.{prefix_len-le-length}
use Rattle.mac_io.specs.Search.{slash}
use Rattle.mac_io.proofs.path_text.folder_of.Goals as goal

pub slice_bounds-result-count : goal.slice_bounds-result-count
slice_bounds-result-count c =
    let name = c.args.name.now in
    omega (arith, c.behind_slash.ensures, prefix_len-le-length (λ byte. not (byte == slash)) (reverse name), length-reverse name)

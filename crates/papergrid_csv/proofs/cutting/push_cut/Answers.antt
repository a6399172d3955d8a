use Rattle.std.proofs.Common.{arith, refl}
use Rattle.std.specs.Prelude.{string_bytes}
use Rattle.std.proofs.Math.Utf8.{encode}
use Rattle.papergrid_csv.proofs.CutLemmas.{adds-cut}
use Rattle.papergrid_csv.proofs.SpellingLemmas.{pushed}
use Rattle.papergrid_csv.proofs.cutting.push_cut.Goals as goal

pub returns : goal.returns
returns c =
    adds-cut c.push.result c.args.columns c.kept_bytes-count.result c.args.line.now c.range.result.now _ _ _ (omega arith) c.kept_bytes-count.ensures c.range.ensures.value
    c.in_ok-push_str.ensures.bytes (pushed c.push.result (string_bytes c.push_str-2.new.self) _ (encode 0x2026) _ c.push.ensures.bytes refl)

use Rattle.papergrid.proofs.RunLemmas.{one-output}
use Rattle.papergrid.proofs.laws.one_output.Goals as goal

pub returns : goal.returns
returns c sizing input =
    one-output sizing
    (λ columns texts settings d e a b. (c.one_picture.ensures.pictures columns texts sizing settings d e a b).1)
    (λ columns texts settings. c.one_picture.ensures.drawn columns texts sizing settings)
    (λ columns texts settings. c.one_picture.ensures.refused columns texts sizing settings)
    input (c.one_script.ensures.only input)

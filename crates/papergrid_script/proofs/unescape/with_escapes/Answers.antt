use Rattle.std.proofs.Common.{Some, ap, ◌∙◌, rules}
use Rattle.papergrid_script.proofs.EscapeLemmas.{finished, parted_cut, parted_none, past_escape, past_plain, stopped}
use Rattle.papergrid_script.proofs.unescape.with_escapes.Goals as goal

pub returns-in-None : goal.returns-in-None
returns-in-None c =
    ap Some c.into_bump_str.ensures ∙ finished _ _ _ _ (parted_none _ c.in-None.ensures.parts) c.in_ok-push_str-in-None.ensures.bytes
    (past_escape _ _ _ _ _ _ c.in-Some.ensures.escape c.in_ok-push.ensures.bytes c.loop-meant.invariant.meant)

pub loop-meant-preserved : goal.loop-meant-preserved
loop-meant-preserved c = record {
  text = search rules;
  meant = past_plain _ _ _ _ _ _ (parted_cut _ _ _ c.in-Some-split_at_byte.ensures.parts) c.in_ok-push_str-in-Some-split_at_byte.ensures.bytes
      (past_escape _ _ _ _ _ _ c.in-Some.ensures.escape c.in_ok-push.ensures.bytes c.loop-meant.invariant.meant);
}

pub returns : goal.returns
returns c = stopped _ _ _ c.in_default.ensures.escape c.loop-meant.invariant.meant

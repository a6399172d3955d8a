use Rattle.std.proofs.Common.{◌≡◌, ◌∙◌, sym, subst, true}
use Rattle.std.proofs.lemmas.List.Elements.{All-push}
use Rattle.papergrid_config.specs.Applied.{is_in_range}
use Rattle.papergrid_config.specs.declared.setting.Setting.{Setting}
use Rattle.papergrid_json.specs.Documents.{AreInRange}
use Rattle.papergrid_builder.proofs.builder.Builder.push_setting.Goals as goal

pub invariant_of-self-2 : goal.invariant_of-self-2
invariant_of-self-2 c =
    record {
      in_range = subst AreInRange (sym c.in_ok-push.ensures.items)
          (All-push (λ (setting : Setting). is_in_range setting ≡ true) c.self.inside.settings.items c.args.setting c.self.invariant.in_range (sym c.is_in_range.ensures ∙ c.if-not-is_in_range.false));
      within = c.self.invariant.within;
      current = tt;
    }

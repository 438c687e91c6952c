use Rattle.std.proofs.Common.{◌∙◌}
use Rattle.dc_conf.specs.Configuration.{is_sound}
use Rattle.dc_conf.proofs.conf.configure_by.Goals as goal

pub invariant_of-result : goal.invariant_of-result
invariant_of-result c =
    (λ i. is_sound (record {
      config = (c.in_ok-config.ensures ∙ c.value_at.ensures) i;
      templates = (c.in_ok-templates.ensures ∙ c.value_at-2.ensures) i;
      frontend = c.in_ok-frontend.ensures i;
      priority = c.in_ok-priority.ensures i;
      databases = c.in_ok-names.ensures i;
      specs = c.in_ok-specs.ensures i;
      nodes = c.in_ok-web.ensures i;
    })) ∙ c.requires.sound

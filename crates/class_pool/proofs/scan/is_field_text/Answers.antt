use Rattle.std.proofs.Common.{◌≡◌, sym, ap, ◌∙◌}
use Rattle.class_pool.specs.DescriptorReading.{suffix_of, kind_at}
use Rattle.class_pool.proofs.descriptors.Skips.{ends, field_ends}
use Rattle.class_pool.proofs.scan.is_field_text.Goals as goal

pub returns-in-Some : goal.returns-in-Some
returns-in-Some c =
    let is : suffix_of (kind_at c.args.text.now) ≡ _ = sym c.in-Some.ensures in
    c.is_empty.ensures ∙ sym (ap ends is) ∙ sym (field_ends c.args.text.now)

pub returns-in-None : goal.returns-in-None
returns-in-None c = sym (ap ends (sym c.in-None.ensures)) ∙ sym (field_ends c.args.text.now)

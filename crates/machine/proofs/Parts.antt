-- What two equal descriptors, or two equal pending objects, show of their parts.
use Rattle.std.specs.Prelude.{ℕ, ◌≡◌, Some}
use Rattle.std.proofs.Common.{ap}
use Rattle.table.specs.declared.Primary.{Primary}
use Rattle.table.specs.declared.Descriptor.{Descriptor}
use Rattle.table.specs.declared.Making.{Making}
use Rattle.machine.specs.Words.{described}
use Rattle.machine.specs.Entries.{pending_with}

pub described_is : (len m a b : ℕ) → described len m ≡ described a b → (len ≡ a) × (m ≡ b)
described_is len m a b e =
    let z : ◌≡◌ {A = Descriptor} (record { len = len; m = m }) (record { len = a; m = b }) = cc in
    (ap (λ (d : Descriptor). d.len) z, ap (λ (d : Descriptor). d.m) z)

pub pending_parts : (d : Making) (p : Primary) (r len f : ℕ) → Some d ≡ pending_with p r len f → (d.at ≡ p) × (d.register ≡ r) × (d.len ≡ len) × (d.filled ≡ f)
pending_parts d p r len f e =
    let z : ◌≡◌ {A = Making} d (record { at = p; register = r; len = len; filled = f }) = cc in
    (ap (λ (x : Making). x.at) z, ap (λ (x : Making). x.register) z, ap (λ (x : Making). x.len) z, ap (λ (x : Making). x.filled) z)

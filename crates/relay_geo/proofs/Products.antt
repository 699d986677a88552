-- `psi` and `attitude_error` go by entries, so that no matrix stands between; here they are by whole matrices, as the Rust writes them. Assumes nothing.
use Rattle.laws.proofs.Prelude.{◌≡◌, refl}
use Rattle.relay_math.specs.{declared.Vec3.Vec3, F32.{◌⊕◌, ◌⊖◌, ◌⊗◌, 0·5, 3·0}}
use Rattle.relay_geo.specs.{declared.vectors.Mat3.Mat3, Vectors.{transpose3, matmul3, vee}, Controller.{psi, attitude_error}}

-- `let rdt_r = matmul3(&transpose3(r_d), r); let tr = rdt_r[0][0] + rdt_r[1][1] + rdt_r[2][2]; 0.5 * (3.0 - tr)`
pub psi_by_trace : (r rd : Mat3)
    → psi r rd ≡ (let p = matmul3 (transpose3 rd) r in
    let tr = p.0.0 ⊕ p.1.1 ⊕ p.2.2 in
    0·5 ⊗ (3·0 ⊖ tr))
unfolding psi matmul3
psi_by_trace r rd = refl

-- `diff[i][j] = rdt_r[i][j] - rt_rd[i][j]`
abbrev row_less : Vec3 → Vec3 → Vec3
row_less a b = (a.0 ⊖ b.0, a.1 ⊖ b.1, a.2 ⊖ b.2)

abbrev pub less3 : Mat3 → Mat3 → Mat3
less3 a b = (row_less a.0 b.0, row_less a.1 b.1, row_less a.2 b.2)

-- `vee` of the difference of `matmul3(&transpose3(r_d), r)` and `matmul3(&transpose3(r), r_d)`
pub error_by_vee : (r rd : Mat3) → attitude_error r rd ≡ vee (less3 (matmul3 (transpose3 rd) r) (matmul3 (transpose3 r) rd))
unfolding attitude_error matmul3
error_by_vee r rd = refl

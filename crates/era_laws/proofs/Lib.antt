pub mod OpenLaws
pub mod ReshapeLaws
pub mod ShapeLaws

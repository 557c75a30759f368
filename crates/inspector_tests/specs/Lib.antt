pub mod Building
pub mod BuildingLaws
